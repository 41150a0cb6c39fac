-- Weighted sums of raised numbers: every cell is raised by 2^31 and every weight by up to 65,535, so that none is below
-- 0 and each product is one multiply of two numbers below 2^32. What raising adds to a sum is taken away where the sum
-- starts.
--   raised_base by w           minus what raising the cells adds to a sum: 2^31 times the sum of the raised weights
--   raised_start by w s i      what the sum of cell i starts from: from raised_base, what raising the weights adds is
--                             taken away
--   raised_term by w s i j     the window's cell j, raised, times weight j, raised
--   raised_to by w s n i       from the start, the first n terms
--   LiftNeeds by w             how large the weights w and by may be
--   RaiseNeeds by w s n         what the workers suppose: the weights w and the padded line s of n cells are weighable,
--                               and may be raised
use Rattle.std.specs.Prelude.{ℕ, ◌+◌, ◌≤◌, ◌≡◌, false, List, ℤ, pos, ◌+ℤ◌, ◌-ℤ◌, ◌*ℤ◌, length, get_or}
use Rattle.numbers.specs.Limits.{largest_weight, longest_window}
use Rattle.numbers.specs.Lists.{any_of, Every}
use Rattle.numbers.specs.Ranges.{over}
use Rattle.numbers.specs.Sums.{sum_of}
use Rattle.correlate_spec.specs.Weighed.{summed}
use Rattle.correlate_spec.specs.WindowSum.{window_sum}
use Rattle.correlate_spec.specs.Sizes.{LineSumNeeds}
use Rattle.correlate_raised_terms.specs.Narrow.{Raised, Narrow}

abbrev pub raised_base : ℕ → List ℤ → ℤ
raised_base by w = pos 0 -ℤ (sum_of w +ℤ pos (length w) *ℤ pos by) *ℤ pos 2147483648

abbrev pub raised_start : ℕ → List ℤ → List ℤ → ℕ → ℤ
raised_start by w s i = raised_base by w -ℤ window_sum s (length w) i *ℤ pos by

abbrev pub raised_term : ℕ → List ℤ → List ℤ → ℕ → ℕ → ℤ
raised_term by w s i j = (get_or s (i + j) (pos 0) +ℤ pos 2147483648) *ℤ (get_or w j (pos 0) +ℤ pos by)

abbrev pub raised_to : ℕ → List ℤ → List ℤ → ℕ → ℕ → ℤ
raised_to by w s n i = summed ◌+ℤ◌ (raised_start by w s i) (raised_term by w s i) n

pub record LiftNeeds (by : ℕ) (w : List ℤ) : Type 0 where
  pub few : length w ≤ longest_window
  pub weights : any_of (over largest_weight) w ≡ false
  pub low : by ≤ largest_weight

pub record RaiseNeeds (by : ℕ) (w s : List ℤ) (n : ℕ) : Type 0 where
  pub weighable : LineSumNeeds w s n
  pub low : by ≤ largest_weight
  pub weights : Every (Raised by 131070) w
  pub cells : Narrow s
