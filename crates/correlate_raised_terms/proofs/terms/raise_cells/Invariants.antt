-- `raise_cells` meets its contract: the cells before place `cell-index` are raised, the others are as they were.
use lib.IntN.{pos}
use lib.ListN.{length}
use Rattle.correlate_spec.proofs.Along.{Pass}
use Rattle.correlate_raised_terms.proofs.RaisedCells.{raised_cell}
use Rattle.correlate_raised_terms.proofs.terms.raise_cells.Given as goal

abbrev pub invariant-loop-cell : goal.invariant-loop-cell
invariant-loop-cell l = Pass (pos 0) (raised_cell l.initial.line) l.initial.line (length l.initial.line) l.cell-index l.line
