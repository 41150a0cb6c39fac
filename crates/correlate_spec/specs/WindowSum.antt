-- The sum of a window of whole numbers. s is a padded line.
--   window_sum s size i   the sum of the window of cell i, which has size cells; 0 where it passes the end of s
use Rattle.std.specs.Prelude.{ℕ, List, ℤ}
use Rattle.numbers.specs.Sums.{sum_of}
use Rattle.numbers.specs.Windows.{window_of}

abbrev pub window_sum : List ℤ → ℕ → ℕ → ℤ
window_sum s size i = sum_of (window_of s i size)
