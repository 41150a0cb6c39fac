-- Sorting by insertion keeps the length, what every member has and the count of the members that are at most z, and its outcome rises.
-- Nothing else of it is used.
-- Assumes nothing.
use mathlib.Core.Path.{◌≡◌, refl, ap, ◌∙◌}
use mathlib.Core.Bool.{Bool, true, false, cond}
use mathlib.Core.List.{List, [], ◌∷◌}
use Prim.Native.Nat.{ℕ, suc}
use lib.Dec.{T}
use lib.ListN.{length}
use Rattle.numbers.specs.Lists.{Every}
use Rattle.numbers.specs.Order.{Total}
use Rattle.numbers.proofs.Any.{every_imp}
use Rattle.numbers.proofs.Tests.{cond_ind}
use Rattle.statistics_spec.specs.Sorting.{inserted, sorted, at_most}

-- two members are counted alike in either order
count_swap : (s t : Bool) (n : ℕ) → cond s (suc (cond t (suc n) n)) (cond t (suc n) n) ≡ cond t (suc (cond s (suc n) n)) (cond s (suc n) n)
count_swap true true n = refl
count_swap true false n = refl
count_swap false true n = refl
count_swap false false n = refl

module _ {A : Type 0} (le : A → A → Bool) where
  -- each member is at most every later one
  abbrev pub Rising : List A → Type 0
  Rising [] = Unit {0}
  Rising (x ∷ xs) = Every (λ y. T (le x y)) xs × Rising xs

  -- ---- the same length
  length_inserted : (x : A) (s : List A) → length (inserted le x s) ≡ suc (length s)
  unfolding inserted
  length_inserted x [] = refl
  length_inserted x (y ∷ ys) =
      cond_ind (le x y) (x ∷ y ∷ ys) (y ∷ inserted le x ys) (λ s. length s ≡ suc (suc (length ys))) (λ t. refl) (λ t. ap suc (length_inserted x ys))

  pub length-sorted : (l : List A) → length (sorted le l) ≡ length l
  unfolding sorted
  length-sorted [] = refl
  length-sorted (x ∷ xs) = length_inserted x (sorted le xs) ∙ ap suc (length-sorted xs)

  -- ---- what every member has
  every_inserted : (P : A → Type 0) (x : A) (s : List A) → P x → Every P s → Every P (inserted le x s)
  unfolding inserted
  every_inserted P x [] p h = (p, tt)
  every_inserted P x (y ∷ ys) p h =
      cond_ind (le x y) (x ∷ y ∷ ys) (y ∷ inserted le x ys) (Every P) (λ t. (p, h)) (λ t. (h.0, every_inserted P x ys p h.1))

  pub every_sorted : (P : A → Type 0) (l : List A) → Every P l → Every P (sorted le l)
  unfolding sorted
  every_sorted P [] h = tt
  every_sorted P (x ∷ xs) h = every_inserted P x (sorted le xs) h.0 (every_sorted P xs h.1)

  -- ---- the same count of members that are at most z
  count_inserted : (z x : A) (s : List A) → at_most le z (inserted le x s) ≡ cond (le x z) (suc (at_most le z s)) (at_most le z s)
  unfolding inserted at_most
  count_inserted z x [] = refl
  count_inserted z x (y ∷ ys) =
      cond_ind (le x y) (x ∷ y ∷ ys) (y ∷ inserted le x ys) (λ s. at_most le z s ≡ at_most le z (x ∷ y ∷ ys)) (λ t. refl)
      (λ t. ap (λ n. cond (le y z) (suc n) n) (count_inserted z x ys) ∙ count_swap (le y z) (le x z) (at_most le z ys))

  pub count_sorted : (z : A) (l : List A) → at_most le z (sorted le l) ≡ at_most le z l
  unfolding sorted at_most
  count_sorted z [] = refl
  count_sorted z (x ∷ xs) = count_inserted z x (sorted le xs) ∙ ap (λ n. cond (le x z) (suc n) n) (count_sorted z xs)

  -- ---- it rises
  module _ (O : Total le) where
    rising_inserted : (x : A) (s : List A) → Rising s → Rising (inserted le x s)
    unfolding inserted
    rising_inserted x [] h = (tt, tt)
    rising_inserted x (y ∷ ys) h =
        cond_ind (le x y) (x ∷ y ∷ ys) (y ∷ inserted le x ys) Rising
        (λ t. ((t, every_imp (λ w. T (le y w)) (λ w. T (le x w)) ys (λ w k. O.chain x y w t k) h.0), h))
        (λ t. (every_inserted (λ w. T (le y w)) x ys (O.other x y t) h.0, rising_inserted x ys h.1))

    pub rising_sorted : (l : List A) → Rising (sorted le l)
    unfolding sorted
    rising_sorted [] = tt
    rising_sorted (x ∷ xs) = rising_inserted x (sorted le xs) (rising_sorted xs)
