-- The sum of a line of levels near 0, each with 2^30 added.
--   NearSum l sum   no level of l is far, and sum is the sum of the levels so lifted
use Rattle.std.specs.Prelude.{◌≡◌, ℕ, ◌*◌, ◌^◌, ◌≤◌, false, List, length, ℤ, pos, ◌+ℤ◌}
use Rattle.numbers.specs.Limits.{largest_level}
use Rattle.numbers.specs.Lists.{any_of}
use Rattle.numbers.specs.Sums.{sum_of}
use Rattle.array_levels.specs.Near.{is_far}

pub record NearSum (l : List ℤ) (sum : ℕ) : Type 0 where
  pub near : any_of is_far l ≡ false
  pub is : pos sum ≡ sum_of l +ℤ pos (length l * 2 ^ 30)
  pub small : sum ≤ length l * largest_level
