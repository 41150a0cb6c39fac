-- `correlate_grid::cells::correlate_row` meets its contract: from a row of 0, each turn adds the sums of one kernel plane.
use Prim.Native.Nat.{◌+◌, ◌*◌}
use Rattle.border.specs.Modes.{border_of}
use Rattle.direction.specs.Direction.{directed}
use Rattle.correlate_grid_row.specs.ByRows.{RowSumNeeds}
use Rattle.correlate_grid.proofs.cells.correlate_row.Given as goal

abbrev pub invariant-loop-i : goal.invariant-loop-i
invariant-loop-i l =
    RowSumNeeds (border_of l.mode) l.axes.planes l.axes.rows l.axes.cells (directed l.backward l.weights) l.data (l.p * l.axes.rows.len + l.s) (l.i * l.axes.rows.side) l.line l.out
