-- Runs of a grid. Of an axis of p cells that stand s places apart, the cells with one coordinate stand in runs of s
-- neighbouring cells, one in each block of p times s cells.
--   Runs m p s blocks left n len     a grid of len cells is that many blocks, and m fills both rims of a lane whose own
--                                    n cells stand from left on
--   InRim left n p k                 coordinate k of the axis is in a rim
--   read_from m left n k              the coordinate that a coordinate k in a rim reads
--   coordinate_set p s from at g      g with each cell of coordinate at as the cell of coordinate from in its lane
--   extended_at m p s left n g k      the level at place k, where the own cells of its lane are extended along m
--   rim_set m p s left n a count g    g with these levels at the count coordinates from a on
--   axis_set m p s left n g           g with these levels at every place
use Rattle.std.specs.Prelude.{ℕ, ◌+◌, ◌-◌, ◌*◌, ◌/◌, ◌%◌, ◌≤◌, ◌<◌, ◌≡◌, false, ◌&&◌, cond, List, ◌⊎◌, leb, ltb, eqb, ℤ, pos, length, get_or, take, drop}
use Rattle.numbers.specs.Limits.{longest_padded_axis, most_padded_cells}
use Rattle.numbers.specs.Lists.{tabulate}
use Rattle.lanes.specs.Lanes.{lane_of, lane_base, lane}
use Rattle.border.specs.Border.{along, cell_before, cell_after}
use Rattle.border.specs.declared.CellBorder.{CellBorder}
use Rattle.pad_line.specs.Line.{padded_at}
use Rattle.border.specs.Reach.{bad_along}

pub record Runs (m : CellBorder) (p s blocks left n len : ℕ) : Type 0 where
  pub apart : 0 < s
  pub some : 0 < n
  pub room : left + n ≤ p
  pub short : p ≤ longest_padded_axis
  pub whole : len ≡ blocks * (p * s)
  pub small : len ≤ most_padded_cells
  pub fills_left : bad_along m n left ≡ false
  pub fills_right : bad_along m n (p - (left + n)) ≡ false

abbrev pub InRim : ℕ → ℕ → ℕ → ℕ → Type 0
InRim left n p k = (k < left) ⊎ ((left + n ≤ k) × (k < p))

abbrev pub read_from : CellBorder → ℕ → ℕ → ℕ → ℕ
read_from m left n k = cond (ltb k left) (left + cell_before m n (left - k)) (left + cell_after m n (k + 1 - (left + n)))

unfoldable pub coordinate_set : ℕ → ℕ → ℕ → ℕ → List ℤ → List ℤ
coordinate_set p s from at g =
    tabulate (λ k. cond (eqb (k / s % p) at) (get_or g (lane_base p s (lane_of p s k) + from * s) (pos 0))
    (get_or g k (pos 0))) 0 (length g)

abbrev pub extended_at : CellBorder → ℕ → ℕ → ℕ → ℕ → List ℤ → ℕ → ℤ
extended_at m p s left n g k = padded_at (pos 0) (along m) left (take n (drop left (lane (pos 0) p s (lane_of p s k) g)))
    (k / s % p)

unfoldable pub rim_set : CellBorder → ℕ → ℕ → ℕ → ℕ → ℕ → ℕ → List ℤ → List ℤ
rim_set m p s left n a count g =
    tabulate (λ k. cond (leb a (k / s % p) && ltb (k / s % p) (a + count)) (extended_at m p s left n g k)
    (get_or g k (pos 0))) 0 (length g)

unfoldable pub axis_set : CellBorder → ℕ → ℕ → ℕ → ℕ → List ℤ → List ℤ
axis_set m p s left n g = tabulate (extended_at m p s left n g) 0 (length g)
