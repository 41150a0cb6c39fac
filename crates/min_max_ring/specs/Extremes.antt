-- The first of each window of a line, in an order given by its test: the least under ≤ (SciPy's page on
-- minimum_filter1d), the greatest under ≥ (its page on maximum_filter1d).
--   order_by greatest          the test of the order: ≥ where greatest is true, else ≤
--   extremes le line len n      the first of line[i .. i + len], for i from 0 to n − 1
--   serving n len m           whether the ring serves windows of len cells of a line of n cells, for m cells of output
--   RingNeeds n len m            the same, as facts
--   swept_by le line len out   what out holds after the line: the first of each window where the ring serves, else what
--                             it held
use Rattle.std.specs.Prelude.{ℕ, ◌+◌, ◌-◌, ◌≤◌, ◌<◌, ◌≡◌, Bool, true, false, ◌&&◌, cond, List, leb, eqb, ℤ, pos, length}
use Rattle.std.specs.Int.Signed.{le_z}
use Rattle.numbers.specs.Limits.{longest_line, longest_window}
use Rattle.numbers.specs.Lists.{tabulate}
use Rattle.numbers.specs.Order.{at_least, extreme}
use Rattle.numbers.specs.Windows.{window_of}

abbrev pub order_by : Bool → ℤ → ℤ → Bool
order_by true = at_least
order_by false = le_z

unfoldable pub extremes : (ℤ → ℤ → Bool) → List ℤ → ℕ → ℕ → List ℤ
extremes le line len n = tabulate (λ i. extreme le (pos 0) (window_of line i len)) 0 n

abbrev pub serving : ℕ → ℕ → ℕ → Bool
serving n len m = leb 2 len && leb len longest_window && leb n longest_line && leb len (n + 1) && eqb m (n + 1 - len)

pub record RingNeeds (n len m : ℕ) : Type 0 where
  pub wide : 1 < len
  pub narrow : len ≤ longest_window
  pub short : n ≤ longest_line
  pub cells : m + len ≡ n + 1

unfoldable pub swept_by : (ℤ → ℤ → Bool) → List ℤ → ℕ → List ℤ → List ℤ
swept_by le line len out = cond (serving (length line) len (length out)) (extremes le line len (length out)) out
