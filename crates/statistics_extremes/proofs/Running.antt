-- What a loop over a line keeps of the first member in an order: of four running values that take every fourth member each, and what is left.
-- At the end stand the same laws as the machine takes them, of levels that fit 64 bits. The minimum's proofs take these laws at ≤, the maximum's at ≥.
-- Assumes nothing.
use mathlib.Core.Path.{◌≡◌, refl, sym, ap, ◌∙◌}
use mathlib.Core.Bool.{Bool}
use mathlib.Core.List.{List, [], ◌∷◌}
use Prim.Native.Nat.{ℕ, ◌+◌, ◌^◌, ◌<◌}
use native.Mathlib.Nat.{not-suc-le-zero, suc-ne-zero}
use native.Mathlib.Omega.{arith}
use lib.IntN.{ℤ, pos}
use lib.ListN.{length, get_or, drop}
use lib.Signed.{le_z, mag}
use mir.Syntax.{w64}
use mir.Val.{to_z, of_z}
use Rattle.std.specs.Int.{int_min, int_max}
use Rattle.std.proofs.lemmas.Int.{ints}
use Rattle.numbers.specs.Order.{Total, at_least, extreme_from, extreme}
use Rattle.numbers.proofs.Index.{drop-next}
use Rattle.numbers.proofs.Lesser.{lesser, lesser_itself, lesser_assoc, lesser_crossed}
use Rattle.numbers.proofs.Read.{read}

-- ---- one step: n is m, or the member at place i where that comes first
pub record Next {A : Type 0} (le : A → A → Bool) (d : A) (l : List A) (i : ℕ) (m n : A) : Type 0 where
  pub is : n ≡ lesser le m (get_or l i d)

module _ {A : Type 0} (le : A → A → Bool) (d : A) where
  -- ---- the ends of a pass
  pub extreme-none : (l : List A) → length l ≡ 0 → d ≡ extreme le d l
  extreme-none [] h = refl
  extreme-none (x ∷ xs) h = absurd (suc-ne-zero _ h)

  pub extreme-first : (l : List A) → 0 < length l → extreme_from le (get_or l 0 d) (drop 1 l) ≡ extreme le d l
  extreme-first [] h = absurd (not-suc-le-zero h)
  extreme-first (x ∷ xs) h = refl

  -- ---- four running values, and what is left from place i on
  abbrev pub four : A → A → A → A → A
  four a b c e = lesser le (lesser le a b) (lesser le c e)

  pub record Four (l : List A) (i : ℕ) (a b c e : A) : Type 0 where
    pub is : extreme_from le (four a b c e) (drop i l) ≡ extreme le d l

  drop-four : (l : List A) (i : ℕ) → i + 3 < length l → drop i l ≡ get_or l i d ∷ get_or l (i + 1) d ∷ get_or l (i + 2) d ∷ get_or l (i + 3) d ∷ drop (i + 4) l
  drop-four l i h =
      drop-next l i d (omega arith)
      ∙ ap (λ s. get_or l i d ∷ s) (drop-next l (i + 1) d (omega arith) ∙ ap (λ j. get_or l (i + 1) d ∷ drop j l) second)
      ∙ ap (λ s. get_or l i d ∷ get_or l (i + 1) d ∷ s) (drop-next l (i + 2) d (omega arith) ∙ ap (λ j. get_or l (i + 2) d ∷ drop j l) third)
      ∙ ap (λ s. get_or l i d ∷ get_or l (i + 1) d ∷ get_or l (i + 2) d ∷ s) (drop-next l (i + 3) d h ∙ ap (λ j. get_or l (i + 3) d ∷ drop j l) fourth)
    where
      second : i + 1 + 1 ≡ i + 2
      second = omega arith

      third : i + 2 + 1 ≡ i + 3
      third = omega arith

      fourth : i + 3 + 1 ≡ i + 4
      fourth = omega arith

  module _ (O : Total le) where
    pub four-first : (l : List A) {a : A} → 0 < length l → a ≡ get_or l 0 d → Four l 1 a a a a
    four-first l {a} h e = record { is = ap (λ m. extreme_from le m (drop 1 l)) (ap (λ m. lesser le m m) (lesser_itself le O a) ∙ lesser_itself le O a ∙ e) ∙ extreme-first l h }

    -- four members taken by one value each, or one after the other by the first of the four
    four_crossed : (a b c e w x y z : A)
        → four (lesser le a w) (lesser le b x) (lesser le c y) (lesser le e z) ≡ lesser le (lesser le (lesser le (lesser le (four a b c e) w) x) y) z
    four_crossed a b c e w x y z = let f = four a b c e in
        (λ i. lesser le (lesser_crossed le O a b w x i) (lesser_crossed le O c e y z i))
        ∙ lesser_crossed le O (lesser le a b) (lesser le c e) (lesser le w x) (lesser le y z)
        ∙ sym (lesser_assoc le O f (lesser le w x) (lesser le y z))
        ∙ ap (λ v. lesser le v (lesser le y z)) (sym (lesser_assoc le O f w x))
        ∙ sym (lesser_assoc le O (lesser le (lesser le f w) x) y z)

    pub four-more : {l : List A} {i : ℕ} {a b c e a' b' c' e' : A} → Four l i a b c e → i + 3 < length l
        → Next le d l i a a' → Next le d l (i + 1) b b' → Next le d l (i + 2) c c' → Next le d l (i + 3) e e' → Four l (i + 4) a' b' c' e'
    four-more {l} {i} {a} {b} {c} {e} F h N₀ N₁ N₂ N₃ = record {
      is =
          (λ j. extreme_from le (four (N₀.is j) (N₁.is j) (N₂.is j) (N₃.is j)) (drop (i + 4) l))
          ∙ ap (λ m. extreme_from le m (drop (i + 4) l)) (four_crossed a b c e (get_or l i d) (get_or l (i + 1) d) (get_or l (i + 2) d) (get_or l (i + 3) d))
          ∙ sym (ap (extreme_from le (four a b c e)) (drop-four l i h))
          ∙ F.is;
    }

-- ---- as the machine takes them, of levels that fit: `back` is what the bits of a level stand for
abbrev back : ℤ → ℤ
back z = to_z w64 (of_z w64 z)

-- the lesser and the greater of two levels, as std has them
pub min_is : (x y : ℤ) → int_min x y ≡ lesser le_z x y
min_is x y = grind (arith, ints)

pub max_is : (x y : ℤ) → int_max x y ≡ lesser at_least x y
max_is x y = grind (arith, ints)

module _ (le : ℤ → ℤ → Bool) (op : ℤ → ℤ → ℤ) (op_is : (x y : ℤ) → op x y ≡ lesser le x y) (l : List ℤ) where
  -- one step, of a level that was read
  pub next-read : (i : ℕ) {m r : ℤ} → let z = get_or l i (pos 0) in mag z < 2 ^ 63 → mag r < 2 ^ 63 → r ≡ op m (back z) → Next le (pos 0) l i m (back r)
  next-read i {m} {r} h k e = record { is = read k (e ∙ op_is m (back (get_or l i (pos 0))) ∙ ap (lesser le m) (read h refl)) }

  -- the four running values joined, and the levels that are left after them
  pub four-last : {i : ℕ} {a b c e p q r s : ℤ} → Four le (pos 0) l i a b c e → mag p < 2 ^ 63 → p ≡ op a b → mag q < 2 ^ 63 → q ≡ op c e
      → mag r < 2 ^ 63 → r ≡ op (back p) (back q) → mag s < 2 ^ 63 → s ≡ extreme_from le (back r) (drop i l) → back s ≡ extreme le (pos 0) l
  four-last {i} {a} {b} {c} {e} {p} {q} F fp ep fq eq fr er fs es =
      read fs
      (es ∙ ap (λ z. extreme_from le z (drop i l))
      (read fr (er ∙ op_is (back p) (back q) ∙ (λ t. lesser le (read fp (ep ∙ op_is a b) t) (read fq (eq ∙ op_is c e) t)))))
      ∙ F.is
