-- The member at place k of a sorted list is known by its rank: it is at most z exactly where more than k members of the list are.
-- So the count of the members that are at most z decides on which side of z it stands, and no sorted list has to be made to find it.
-- Assumes nothing.
use mathlib.Core.Path.{◌≡◌, refl, ◌∙◌}
use mathlib.Core.Bool.{Bool, true, false, not, cond}
use mathlib.Core.List.{List, [], ◌∷◌}
use Prim.Native.Nat.{ℕ, zero, suc, ◌≤◌, ◌<◌}
use native.Mathlib.Nat.{not-suc-le-zero, le_of_suc-le-suc}
use native.Mathlib.Omega.{arith}
use lib.Dec.{T}
use lib.ListN.{length, get_or}
use Rattle.numbers.specs.Lists.{Every}
use Rattle.numbers.specs.Order.{Total}
use Rattle.numbers.proofs.Any.{every_imp, every_at}
use Rattle.numbers.proofs.Tests.{cond_ind}
use Rattle.statistics_spec.specs.Sorting.{sorted, at_most}
use Rattle.statistics_spec.proofs.Sorting.{Rising, length-sorted, count_sorted, rising_sorted}

-- a choice whose test is answered
chosen : {A : Type 0} (t : Bool) (x y : A) → T t → cond t x y ≡ x
chosen true x y h = refl
chosen false x y h = absurd h

pub passed : {A : Type 0} (t : Bool) (x y : A) → T (not t) → cond t x y ≡ y
passed true x y h = absurd h
passed false x y h = refl

module _ {A : Type 0} (le : A → A → Bool) (O : Total le) where
  -- what is above z is after z
  not_below : (x y z : A) → T (le x y) → T (not (le x z)) → T (not (le y z))
  not_below x y z h n = go (le y z) refl
    where
      go : (t : Bool) → le y z ≡ t → T (not t)
      go true e = absurd (clash (le x z) (O.chain x y z h (rw e tt)) n)
        where
          clash : (t : Bool) → T t → T (not t) → ⊥
          clash true p q = q
          clash false p q = p
      go false e = tt

  none : (z : A) (s : List A) → Every (λ y. T (not (le y z))) s → at_most le z s ≡ 0
  unfolding at_most
  none z [] h = refl
  none z (x ∷ xs) h = passed (le x z) (suc (at_most le z xs)) (at_most le z xs) h.0 ∙ none z xs h.1

  -- ---- of a list that rises
  rising_reached : (z d : A) (s : List A) (k : ℕ) → Rising le s → k < length s → T (le (get_or s k d) z) → k < at_most le z s
  unfolding at_most
  rising_reached z d [] k r b t = absurd (not-suc-le-zero b)
  rising_reached z d (x ∷ xs) zero r b t = omega (arith, chosen (le x z) (suc (at_most le z xs)) (at_most le z xs) t)
  rising_reached z d (x ∷ xs) (suc k) r b t =
      let below : T (le x (get_or xs k d)) = every_at (λ y. T (le x y)) xs d r.0 k (le_of_suc-le-suc b) in
      omega (arith, chosen (le x z) (suc (at_most le z xs)) (at_most le z xs) (O.chain x (get_or xs k d) z below t), rising_reached z d xs k r.1 (le_of_suc-le-suc b) t)

  rising_passed : (z d : A) (s : List A) (k : ℕ) → Rising le s → k < length s → T (not (le (get_or s k d) z)) → at_most le z s ≤ k
  unfolding at_most
  rising_passed z d [] k r b t = absurd (not-suc-le-zero b)
  rising_passed z d (x ∷ xs) zero r b t =
      omega (arith, none z (x ∷ xs) (t, every_imp (λ y. T (le x y)) (λ y. T (not (le y z))) xs (λ y h. not_below x y z h t) r.0))
  rising_passed z d (x ∷ xs) (suc k) r b t =
      cond_ind (le x z) (suc (at_most le z xs)) (at_most le z xs) (λ n. n ≤ suc k)
      (λ _. omega (arith, rising_passed z d xs k r.1 (le_of_suc-le-suc b) t)) (λ _. omega (arith, rising_passed z d xs k r.1 (le_of_suc-le-suc b) t))

  -- ---- of a list sorted
  module _ (z d : A) (l : List A) (k : ℕ) (b : k < length l) where
    pub rank_reached : T (le (get_or (sorted le l) k d) z) → k < at_most le z l
    rank_reached t = omega (arith, count_sorted le z l, rising_reached z d (sorted le l) k (rising_sorted le O l) (omega (arith, length-sorted le l)) t)

    pub rank_passed : T (not (le (get_or (sorted le l) k d) z)) → at_most le z l ≤ k
    rank_passed t = omega (arith, count_sorted le z l, rising_passed z d (sorted le l) k (rising_sorted le O l) (omega (arith, length-sorted le l)) t)
