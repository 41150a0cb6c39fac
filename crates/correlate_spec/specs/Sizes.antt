-- How large the cells and weights of a line may be, so that no sum leaves 64 bits: cells up to 2^38, weights up to
-- 65,535, at most 65 of them.
--   LineSumNeeds w s n    the weights w and the padded line s of n cells are so
--   SumNeeds s         the cells of s, at most 65, are so
use Rattle.std.specs.Prelude.{ℕ, ◌+◌, ◌-◌, ◌^◌, ◌≤◌, ◌<◌, ◌≡◌, false, List, ℤ, pos, length}
use Rattle.numbers.specs.Limits.{largest_between, largest_weight, longest_line, longest_window}
use Rattle.numbers.specs.Lists.{any_of}
use Rattle.numbers.specs.Ranges.{over}

pub record LineSumNeeds (w s : List ℤ) (n : ℕ) : Type 0 where
  pub some : 0 < length w
  pub few : length w ≤ longest_window
  pub long : n + length w ≤ length s + 1
  pub short : length s ≤ longest_line
  pub weights : any_of (over largest_weight) w ≡ false
  pub cells : any_of (over largest_between) s ≡ false

pub record SumNeeds (s : List ℤ) : Type 0 where
  pub few : length s ≤ longest_window
  pub cells : any_of (over largest_between) s ≡ false
