-- The statistics that padding fills a lane with, from NumPy's page on `pad` (its modes maximum, minimum, mean and
-- median). Where NumPy rounds a mean or a median to the nearest whole number, ties to even, the Rust cuts toward zero,
-- and the Rust decides. The empty line, of which neither says anything, gives 0 throughout.
--   minimum_of l       the least level
--   maximum_of l       the greatest level
--   mean_of l          the sum of the levels over their number, cut toward zero
--   ranked l k        the level at place k of the sorted line
--   median_of l        the middle level of the sorted line; of an even number the two middle levels' sum over 2, cut
--                     toward zero
--   outside_levels z   a level outside −(2^31 − 1)..2^31 − 1
--   unserved l        a line that mean and median do not serve: over 1,024 cells, or with such a level
--   answered f l      what they answer: f of a line that they serve, 0 of any other
use Rattle.std.specs.Prelude.{ℕ, suc, ◌-◌, ◌/◌, ◌%◌, ◌^◌, Bool, ◌||◌, cond, List, ltb, eqb, ℤ, pos, ◌+ℤ◌, length, get_or}
use Rattle.std.specs.Int.Signed.{le_z, quot_z}
use Rattle.numbers.specs.Limits.{largest_level, longest_axis}
use Rattle.numbers.specs.Lists.{any_of}
use Rattle.numbers.specs.Order.{at_least, extreme}
use Rattle.numbers.specs.Ranges.{over}
use Rattle.numbers.specs.Sums.{sum_of}
use Rattle.statistics_spec.specs.Sorting.{sorted}

abbrev pub minimum_of : List ℤ → ℤ
minimum_of l = extreme le_z (pos 0) l

abbrev pub maximum_of : List ℤ → ℤ
maximum_of l = extreme at_least (pos 0) l

unfoldable pub mean_of : List ℤ → ℤ
mean_of l = quot_z (sum_of l) (pos (length l))

abbrev pub ranked : List ℤ → ℕ → ℤ
ranked l k = get_or (sorted le_z l) k (pos 0)

unfoldable pub median_of : List ℤ → ℤ
median_of l =
    let h = (length l - 1) / 2 in
    cond (eqb (length l % 2) 1) (ranked l h) (quot_z (ranked l h +ℤ ranked l (suc h)) (pos 2))

abbrev pub outside_levels : ℤ → Bool
outside_levels z = over largest_level z

unfoldable pub unserved : List ℤ → Bool
unserved l = ltb longest_axis (length l) || any_of outside_levels l

abbrev pub answered : (List ℤ → ℤ) → List ℤ → ℤ
answered f l = cond (unserved l) (pos 0) (f l)
