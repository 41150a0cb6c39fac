-- What the workers of a grid suppose of the kernel's weights holds of them in either direction.
-- Assumes nothing.
use Prim.Native.Nat.{ℕ}
use mathlib.Core.Path.{◌∙◌}
use mathlib.Core.Bool.{Bool}
use mathlib.Core.List.{List}
use lib.IntN.{ℤ}
use Rattle.numbers.specs.Limits.{largest_weight}
use Rattle.numbers.specs.Ranges.{over}
use Rattle.border.specs.Border.{Border}
use Rattle.direction.specs.Direction.{directed}
use Rattle.direction.proofs.Directed.{directed-length, directed_any}
use Rattle.correlate_grid_axes.specs.declared.axes.Axis.{Axis}
use Rattle.correlate_grid_axes.specs.Axes.{KernelNeeds}
use Rattle.correlate_grid_row.specs.ByRows.{Mapped}
use Rattle.correlate_grid.specs.Kernel.{KernelCallNeeds}

module _ (backward : Bool) {b : Border ℤ} {w cells : List ℤ} where
  laid-directed : {x y z : Axis} → KernelNeeds b x y z w cells → KernelNeeds b x y z (directed backward w) cells
  laid-directed L = record {
    planes = L.planes;
    rows = L.rows;
    row = L.row;
    count = L.count;
    small = L.small;
    many = directed-length backward w ∙ L.many;
    weights = directed_any (over largest_weight) backward w ∙ L.weights;
    level = L.level;
    levels = L.levels;
  }

  pub mapped_directed : {x y z : Axis} {first second : List ℤ} → Mapped b x y z w cells first second → Mapped b x y z (directed backward w) cells first second
  mapped_directed M = record { laid = laid-directed M.laid; planes = M.planes; rows = M.rows }

  pub call-directed : {ns : List ℕ} {side left right : ℕ} {out : List ℤ} → KernelCallNeeds b ns side left right w cells out → KernelCallNeeds b ns side left right (directed backward w) cells out
  call-directed K = record {
    shape = K.shape;
    count = K.count;
    same = K.same;
    some = K.some;
    narrow = K.narrow;
    many = directed-length backward w ∙ K.many;
    wide = K.wide;
    pads = K.pads;
    fills_left = K.fills_left;
    fills_right = K.fills_right;
    weights = directed_any (over largest_weight) backward w ∙ K.weights;
    level = K.level;
    levels = K.levels;
  }
