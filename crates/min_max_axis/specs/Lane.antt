-- Which level of a window is kept, and one lane: what the workers fill. What a one-axis call is, which number it gets
-- and what it fills stand in `min_max_spec`.
--   order_of e                      the test of the order: ≤ for the least level, ≥ for the greatest
--   extremes_by le size p n           the line filter: the first level, in the order, of each window of size cells of
--                                    the
--                                  padded line p, cells 0 to n − 1
--   extremes_of le b left right s   for each cell of the line s the first level, in the order, of its window of the
--                                  padded line
use Rattle.std.specs.Prelude.{ℕ, ◌+◌, Bool, List, ℤ, pos}
use Rattle.std.specs.Int.Signed.{le_z}
use Rattle.numbers.specs.Order.{at_least}
use Rattle.border.specs.Border.{Border}
use Rattle.pad_line.specs.Lane.{filtered_lane}
use Rattle.min_max_ring.specs.Extremes.{extremes}
use Rattle.min_max_axis.specs.declared.extreme.Extreme.{Extreme}
use Rattle.min_max_axis.specs.declared.extreme.Extreme.TheVariants.{Least, Greatest}

abbrev pub order_of : Extreme → ℤ → ℤ → Bool
order_of Least = le_z
order_of Greatest = at_least

abbrev pub extremes_by : (ℤ → ℤ → Bool) → ℕ → List ℤ → ℕ → List ℤ
extremes_by le size p n = extremes le p size n

abbrev pub extremes_of : (ℤ → ℤ → Bool) → Border ℤ → ℕ → ℕ → List ℤ → List ℤ
extremes_of le b left right s = filtered_lane (pos 0) (extremes_by le (left + right + 1)) b left right s
