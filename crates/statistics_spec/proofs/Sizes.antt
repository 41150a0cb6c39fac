-- The size of each statistic is at most that of the levels, so what padding fills a lane with is again a level.
-- Assumes nothing.
use mathlib.Core.Path.{◌≡◌, refl, subst}
use mathlib.Core.Bool.{Bool, true, false}
use mathlib.Core.List.{List}
use Prim.Native.Nat.{ℕ, ◌+◌, ◌-◌, ◌*◌, ◌/◌, ◌%◌}
use native.Mathlib.Omega.{arith}
use borrow.Author.Tests.{eqb-true, eqb-false}
use lib.Dec.{eqb}
use lib.IntN.{ℤ, pos, ◌+ℤ◌}
use lib.ListN.{length}
use lib.Signed.{le_z}
use Rattle.numbers.specs.Order.{at_least}
use Rattle.numbers.proofs.Any.{every_get_d}
use Rattle.numbers.proofs.Extreme.{extreme_every}
use Rattle.numbers.proofs.Quotient.{size_quot}
use Rattle.numbers.proofs.Size.{Size, Sized, size_zero, size_add, size_sum}
use Rattle.statistics_spec.specs.Sorting.{sorted}
use Rattle.statistics_spec.specs.Statistics.{minimum_of, maximum_of, mean_of, ranked, median_of}
use Rattle.statistics_spec.proofs.Computed.{mean_quotient, median_odd, median_even}
use Rattle.statistics_spec.proofs.Sorting.{every_sorted}

module _ (p : ℕ) (l : List ℤ) (h : Sized p l) where
  pub size_minimum : Size (minimum_of l) p
  size_minimum = extreme_every le_z (λ x. Size x p) (pos 0) l (size_zero p) h

  pub size_maximum : Size (maximum_of l) p
  size_maximum = extreme_every at_least (λ x. Size x p) (pos 0) l (size_zero p) h

  pub size_mean : Size (mean_of l) p
  size_mean = subst (λ (z : ℤ). Size z p) (mean_quotient l) (size_quot (length l) (size_sum p l h))

  pub size_ranked : (k : ℕ) → Size (ranked l k) p
  size_ranked k = every_get_d (λ x. Size x p) (sorted le_z l) (pos 0) (size_zero p) (every_sorted le_z (λ x. Size x p) l h) k

  pub size_median : Size (median_of l) p
  size_median = go (eqb (length l % 2) 1) refl
    where
      k : ℕ
      k = (length l - 1) / 2

      two : Size (ranked l k +ℤ ranked l (k + 1)) (2 * p)
      two = record { size = omega (arith, (size_add (size_ranked k) (size_ranked (k + 1))).size) }

      go : (t : Bool) → eqb (length l % 2) 1 ≡ t → Size (median_of l) p
      go true e = subst (λ (z : ℤ). Size z p) (median_odd l (eqb-true (length l % 2) 1 e)) (size_ranked k)
      go false e = subst (λ (z : ℤ). Size z p) (median_even l (eqb-false (length l % 2) 1 e)) (size_quot 2 two)
