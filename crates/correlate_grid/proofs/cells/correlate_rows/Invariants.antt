-- `correlate_grid::cells::correlate_rows` meets its contract: each turn stores the sums of one row.
use Rattle.border.specs.Modes.{border_of}
use Rattle.direction.specs.Direction.{directed}
use Rattle.correlate_grid.proofs.EveryRow.{Storing}
use Rattle.correlate_grid.proofs.cells.correlate_rows.Given as goal

abbrev pub invariant-loop-r : goal.invariant-loop-r
invariant-loop-r l =
    Storing (border_of l.mode) l.axes.planes l.axes.rows l.axes.cells (directed l.backward l.weights) l.data l.r l.line l.out
