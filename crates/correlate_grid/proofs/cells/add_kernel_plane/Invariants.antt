-- `correlate_grid::cells::add_kernel_plane` meets its contract: each turn adds the sums of the kernel plane's next row.
use Prim.Native.Nat.{◌+◌, ◌*◌}
use Rattle.border.specs.Modes.{border_of}
use Rattle.direction.specs.Direction.{directed}
use Rattle.correlate_grid_row.specs.ByRows.{RowSumNeeds}
use Rattle.correlate_grid.proofs.cells.add_kernel_plane.Given as goal

abbrev pub invariant-loop-j : goal.invariant-loop-j
invariant-loop-j l =
    RowSumNeeds (border_of l.mode) l.axes.planes l.axes.rows l.axes.cells (directed l.backward l.weights) l.data (l.p * l.axes.rows.len + l.s) (l.i * l.axes.rows.side + l.j) l.line l.out
