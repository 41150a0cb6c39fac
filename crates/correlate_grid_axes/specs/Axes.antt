-- A grid and its kernel as three axes: planes, rows and cells. A missing outer axis has one cell, no pads and a kernel
-- of one cell.
--   axis_from ns back side left right   the axis that stands back axes before the last
--   axes_of ns side left right          the three axes
--   Serves b x           the axis x has a cell, and the border fills its pads, which hold the kernel's window
--   read_at x p q         the coordinate on axis x that kernel coordinate q reads for the cell with coordinate p
--   source_for b n z      the cell that coordinate z reads on an axis of n cells; −1 for none, where the constant stands
--   numbered b           the border under which the numbers 0 .. n − 1 are padded to their sources
--   Found b x t          the table t has the source of every place of axis x; it starts left places before cell 0
--   KernelNeeds b x y z w cells
--                        the cells are a grid of these axes and w its kernel, levels and weights within their limits
use Rattle.std.specs.Prelude.{ℕ, ◌+◌, ◌-◌, ◌*◌, ◌≤◌, ◌<◌, ◌≡◌, false, cond, List, leb, ℤ, pos, negsuc, ◌+ℤ◌, ◌-ℤ◌, length, get_or}
use Rattle.numbers.specs.Limits.{largest_weight, longest_axis, longest_line, most_cells}
use Rattle.numbers.specs.Lists.{any_of}
use Rattle.numbers.specs.Ranges.{over}
use Rattle.array_spec.specs.Conditions.{bad_level}
use Rattle.array_spec.specs.Grid.{length_of}
use Rattle.border.specs.Border.{Border, constant, along, inside, cell_for}
use Rattle.border.specs.Modes.{bad_constant_by}
use Rattle.border.specs.Reach.{bad_pad}
use Rattle.correlate_grid_axes.specs.declared.axes.Axes.{Axes}
use Rattle.correlate_grid_axes.specs.declared.axes.Axis.{Axis}

abbrev pub axis_from : List ℕ → ℕ → ℕ → ℕ → ℕ → Axis
axis_from ns back side left right =
    cond (leb (length ns) back) (record { len = 1; left = 0; right = 0; side = 1 })
    (record { len = length_of ns (length ns - 1 - back); left = left; right = right; side = side })

abbrev pub axes_of : List ℕ → ℕ → ℕ → ℕ → Axes
axes_of ns side left right = record {
  planes = axis_from ns 2 side left right;
  rows = axis_from ns 1 side left right;
  cells
      = axis_from ns 0 side left right;
}

pub record Serves (b : Border ℤ) (x : Axis) : Type 0 where
  pub some : 0 < x.len
  pub short : x.len ≤ longest_axis
  pub some_side : 0 < x.side
  pub wide : x.side ≤ x.left + x.right + 1
  pub pads : x.left + x.right ≤ 7
  pub fills_left : bad_pad b x.len x.left ≡ false
  pub fills_right : bad_pad b x.len x.right ≡ false

abbrev pub read_at : Axis → ℕ → ℕ → ℤ
read_at x p q = pos p -ℤ pos x.left +ℤ pos q

unfoldable pub source_for : Border ℤ → ℕ → ℤ → ℤ
source_for (constant c) n z = cond (inside n z) z (negsuc 0)
source_for (along m) n z = pos (cell_for m n z)

abbrev pub numbered : Border ℤ → Border ℤ
numbered (constant c) = constant (negsuc 0)
numbered (along m) = along m

pub record Found (b : Border ℤ) (x : Axis) (t : List ℤ) : Type 0 where
  pub long : length t ≡ longest_line
  pub at : (k : ℕ) → k < x.left + x.len + x.right → get_or t k (pos 0) ≡ source_for b x.len (pos k -ℤ pos x.left)

pub record KernelNeeds (b : Border ℤ) (x y z : Axis) (w cells : List ℤ) : Type 0 where
  pub planes : Serves b x
  pub rows : Serves b y
  pub row : Serves b z
  pub count : length cells ≡ x.len * y.len * z.len
  pub small : length cells ≤ most_cells
  pub many : length w ≡ x.side * y.side * z.side
  pub weights : any_of (over largest_weight) w ≡ false
  pub level : bad_constant_by bad_level b ≡ false
  pub levels : any_of bad_level cells ≡ false
