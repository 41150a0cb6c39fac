-- The mean of each window of a line, from SciPy's page on `uniform_filter1d`. That page does not say how a mean of
-- whole numbers is rounded; document 01 cuts the quotient toward zero. s is the padded line.
--   cut total size       total over size, cut toward zero
--   means s size n       the means of cells 0 to n − 1
--   MeanLineNeeds s size n    what the line worker supposes: 1 to 65 cells in a window, n windows inside the line,
--                             every cell a level that condition 3 accepts
use Rattle.std.specs.Prelude.{ℕ, ◌+◌, ◌≤◌, ◌<◌, ◌≡◌, false, List, ℤ, pos, length}
use Rattle.std.specs.Int.Signed.{quot_z}
use Rattle.numbers.specs.Limits.{longest_window}
use Rattle.numbers.specs.Lists.{tabulate, any_of}
use Rattle.array_spec.specs.Conditions.{bad_level}
use Rattle.correlate_spec.specs.WindowSum.{window_sum}

abbrev pub cut : ℤ → ℕ → ℤ
cut total size = quot_z total (pos size)

abbrev pub means : List ℤ → ℕ → ℕ → List ℤ
means s size n = tabulate (λ i. cut (window_sum s size i) size) 0 n

pub record MeanLineNeeds (s : List ℤ) (size n : ℕ) : Type 0 where
  pub some : 0 < size
  pub few : size ≤ longest_window
  pub long : n + size ≤ length s + 1
  pub levels : any_of bad_level s ≡ false
