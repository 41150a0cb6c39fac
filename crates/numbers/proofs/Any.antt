-- A search for a member that passes a test, one member at a time, over any element: what a loop that returns at the first hit keeps.
-- Assumes nothing.
use Prim.Native.Nat.{ℕ, zero, suc, ◌+◌, ◌<◌, ◌≤◌}
use mathlib.Core.Path.{◌≡◌, refl, sym, ap, ◌∙◌}
use mathlib.Core.Bool.{Bool, true, false, ◌&&◌, ◌||◌}
use mathlib.Core.List.{List, [], ◌∷◌, ◌++◌, map, reverse_aux, reverse, Memᴰ}
use native.Mathlib.Nat.{not-suc-le-zero, le_of_suc-le-suc}
use native.Mathlib.Numerals.{add-one}
use lib.ListN.{length, get_or, take, drop, drop_of_length-le}
use lib.Seq.{drop-cons}
use Rattle.numbers.proofs.Tests.{or_false, or_no, or_assoc}
use Rattle.numbers.specs.Lists.{any_of, Every}

module _ {A : Type 0} (t : A → Bool) (d : A) (i : ℕ) (s : List A) (b : i < length s) (e : any_of t s ≡ any_of t (drop i s)) where
  pub any_hit : t (get_or s i d) ≡ true → any_of t s ≡ true
  any_hit p = e ∙ ap (any_of t) (drop-cons s i d b) ∙ ap (λ x. x || any_of t (drop (suc i) s)) p

  pub any_miss : t (get_or s i d) ≡ false → any_of t s ≡ any_of t (drop (i + 1) s)
  any_miss p = e ∙ ap (any_of t) (drop-cons s i d b) ∙ ap (λ x. x || any_of t (drop (suc i) s)) p ∙ ap (λ j. any_of t (drop j s)) (sym (add-one i))

-- of two lists joined
pub any_append : {A : Type 0} (t : A → Bool) (s r : List A) → any_of t (s ++ r) ≡ any_of t s || any_of t r
any_append t [] r = refl
any_append t (x ∷ s) r = ap (λ b. t x || b) (any_append t s r) ∙ sym (or_assoc (t x) (any_of t s) (any_of t r))

pub any_end : {A : Type 0} (t : A → Bool) (i : ℕ) (s : List A) → length s ≤ i → any_of t s ≡ any_of t (drop i s) → any_of t s ≡ false
any_end t i s h e = e ∙ ap (any_of t) (drop_of_length-le s h)

-- a test that is joined to one of no member
pub any_and : {A : Type 0} (t : Bool) (p : A → Bool) (s : List A) → any_of (λ x. t && p x) s ≡ t && any_of p s
any_and true p s = refl
any_and false p [] = refl
any_and false p (x ∷ xs) = any_and false p xs

-- every member fails: none passes
pub none_any : {A : Type 0} (t : A → Bool) (s : List A) → Every (λ x. t x ≡ false) s → any_of t s ≡ false
none_any t [] h = refl
none_any t (x ∷ xs) h = or_no (t x) (any_of t xs) h.0 (none_any t xs h.1)

pub any_never : {A : Type 0} (t : A → Bool) (s : List A) → ((x : A) → t x ≡ false) → any_of t s ≡ false
any_never t [] h = refl
any_never t (x ∷ xs) h = or_no (t x) (any_of t xs) (h x) (any_never t xs h)

-- no member passes: every one fails
pub any_none : {A : Type 0} (t : A → Bool) (s : List A) → any_of t s ≡ false → Every (λ x. t x ≡ false) s
any_none t [] e = tt
any_none t (x ∷ xs) e = let p = or_false (t x) (any_of t xs) e in (p.0, any_none t xs p.1)

pub every_at : {A : Type 0} (P : A → Type 0) (s : List A) (d : A) → Every P s → (k : ℕ) → k < length s → P (get_or s k d)
every_at P [] d h k b = absurd (not-suc-le-zero b)
every_at P (x ∷ xs) d h zero b = h.0
every_at P (x ∷ xs) d h (suc k) b = every_at P xs d h.1 k (le_of_suc-le-suc b)

-- the member at any place, where what stands for one past the end has the property too
pub every_get_d : {A : Type 0} (P : A → Type 0) (s : List A) (d : A) → P d → Every P s → (k : ℕ) → P (get_or s k d)
every_get_d P [] d p h k = p
every_get_d P (x ∷ xs) d p h zero = h.0
every_get_d P (x ∷ xs) d p h (suc k) = every_get_d P xs d p h.1 k

pub every_imp : {A : Type 0} (P Q : A → Type 0) (s : List A) → ((x : A) → P x → Q x) → Every P s → Every Q s
every_imp P Q [] f h = tt
every_imp P Q (x ∷ xs) f h = (f x h.0, every_imp P Q xs f h.1)

-- every member of the list turned round, of a list of values
every_onto : {A : Type 0} (P : A → Type 0) (s r : List A) → Every P s → Every P r → Every P (reverse_aux s r)
every_onto P [] r h k = k
every_onto P (x ∷ xs) r h k = every_onto P xs (x ∷ r) h.1 (h.0, k)

pub every_reverse : {A : Type 0} (P : A → Type 0) (s : List A) → Every P s → Every P (reverse s)
every_reverse P s h = every_onto P s [] h tt

pub every_map : {A B : Type 0} (P : B → Type 0) (f : A → B) (s : List A) → Every (λ x. P (f x)) s → Every P (map f s)
every_map P f [] h = tt
every_map P f (x ∷ xs) h = (h.0, every_map P f xs h.1)

-- what is known of each member as a member
pub every_mem : {A : Type 0} (P : A → Type 0) (s : List A) → ((x : A) → Memᴰ x s → P x) → Every P s
every_mem P [] f = tt
every_mem P (x ∷ xs) f = (f x (Memᴰ.head refl), every_mem P xs (λ y m. f y (Memᴰ.tail m)))

-- every member of a part
pub every_drop : {A : Type 0} (P : A → Type 0) (s : List A) (k : ℕ) → Every P s → Every P (drop k s)
every_drop P s zero h = h
every_drop P [] (suc k) h = tt
every_drop P (x ∷ xs) (suc k) h = every_drop P xs k h.1

pub every_take : {A : Type 0} (P : A → Type 0) (s : List A) (k : ℕ) → Every P s → Every P (take k s)
every_take P s zero h = tt
every_take P [] (suc k) h = tt
every_take P (x ∷ xs) (suc k) h = (h.0, every_take P xs k h.1)
