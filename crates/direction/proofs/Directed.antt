-- Weights in either direction: as many, with the same members and the same sum; and which of the caller's a weight or a part is.
-- Assumes nothing.
use Prim.Native.Nat.{ℕ, ◌+◌, ◌-◌, ◌≤◌, ◌<◌}
use mathlib.Core.Path.{◌≡◌, refl, sym, ap, ◌∙◌}
use mathlib.Core.Bool.{Bool, true, false, cond, ◌||◌}
use mathlib.Core.List.{List, [], ◌∷◌, ◌++◌, reverse, reverse-cons, reverse-append, append_assoc}
use native.Mathlib.Omega.{arith}
use lib.IntN.{ℤ, ◌+ℤ◌, +ℤ_comm, +ℤ_idr}
use lib.ListN.{length, get_or, take, drop, length-reverse, length-drop, take-append-drop}
use lib.Seq.{length-take-le, take_at, drop_at}
use Rattle.numbers.specs.Lists.{any_of, Every}
use Rattle.numbers.specs.Sums.{sum_of}
use Rattle.numbers.proofs.Any.{every_reverse, any_append}
use Rattle.numbers.proofs.Index.{get_d_reverse}
use Rattle.numbers.proofs.IntSum.{sum-append}
use Rattle.direction.specs.Direction.{directed}

pub directed-length : {A : Type 0} (backward : Bool) (w : List A) → length (directed backward w) ≡ length w
directed-length true w = length-reverse w
directed-length false w = refl

-- one weight alone
pub directed-one : {A : Type 0} (backward : Bool) (w : List A) → length w ≡ 1 → directed backward w ≡ w
directed-one false w e = refl
directed-one true [] e = refl
directed-one true (x ∷ []) e = refl
directed-one true (x ∷ y ∷ w) e = absurd (omega arith)

-- weight j is the caller's, counted from the end or from the front
module _ {A : Type 0} {backward : Bool} (w : List A) (j : ℕ) (d : A) where
  pub from_end_lem : j < length w → backward ≡ true → get_or w (length w - 1 - j) d ≡ get_or (directed backward w) j d
  from_end_lem h e = sym (get_d_reverse w j d h) ∙ ap (λ b. get_or (directed b w) j d) (sym e)

  pub from_front : backward ≡ false → get_or w j d ≡ get_or (directed backward w) j d
  from_front e = ap (λ b. get_or (directed b w) j d) (sym e)

-- a part of the directed weights is a part of the caller's, directed: the one that ends a weights before the end, or starts at weight a
part-between : {A : Type 0} (p q r : List A) {a m : ℕ} → length q ≡ m → length r ≡ a → reverse q ≡ take m (drop a (reverse (p ++ (q ++ r))))
part-between p q r {a} {m} eq er = sym
    (ap (λ s. take m (drop a s)) turned
    ∙ ap (take m) (drop_at (reverse r) (reverse q ++ reverse p) a (length-reverse r ∙ er))
    ∙ take_at (reverse q) (reverse p) m (length-reverse q ∙ eq))
  where
    turned : reverse (p ++ (q ++ r)) ≡ reverse r ++ (reverse q ++ reverse p)
    turned = reverse-append p (q ++ r) ∙ ap (λ s. s ++ reverse p) (reverse-append q r) ∙ append_assoc (reverse r) (reverse q) (reverse p)

pub directed-part : {A : Type 0} (backward : Bool) (w : List A) (a m : ℕ) → a + m ≤ length w
    → directed backward (take m (drop (cond backward (length w - a - m) a) w)) ≡ take m (drop a (directed backward w))
directed-part false w a m h = refl
directed-part true w a m h =
    let k = length w - a - m in
    let s = drop k w in
    let left : length s - m ≡ a = omega (arith, length-drop k w) in
    part-between (take k w) (take m s) (drop m s) (length-take-le m s (omega (arith, length-drop k w))) (length-drop m s ∙ left)
    ∙ ap (λ l. take m (drop a (reverse l))) (ap (λ l. take k w ++ l) (take-append-drop m s) ∙ take-append-drop k w)

pub directed_every : {A : Type 0} (P : A → Type 0) (backward : Bool) (w : List A) → Every P w → Every P (directed backward w)
directed_every P true w h = every_reverse P w h
directed_every P false w h = h

pub directed-sum : (backward : Bool) (w : List ℤ) → sum_of (directed backward w) ≡ sum_of w
directed-sum false w = refl
directed-sum true [] = refl
directed-sum true (x ∷ w) =
    ap sum_of (reverse-cons x w) ∙ sum-append (reverse w) (x ∷ []) ∙ (λ i. directed-sum true w i +ℤ +ℤ_idr x i) ∙ +ℤ_comm (sum_of w) x

or_turned : (a b : Bool) → a || (b || false) ≡ b || a
or_turned true true = refl
or_turned true false = refl
or_turned false true = refl
or_turned false false = refl

pub directed_any : {A : Type 0} (t : A → Bool) (backward : Bool) (w : List A) → any_of t (directed backward w) ≡ any_of t w
directed_any t false w = refl
directed_any t true [] = refl
directed_any t true (x ∷ w) =
    ap (any_of t) (reverse-cons x w) ∙ any_append t (reverse w) (x ∷ []) ∙ ap (λ b. b || (t x || false)) (directed_any t true w) ∙ or_turned (any_of t w) (t x)
