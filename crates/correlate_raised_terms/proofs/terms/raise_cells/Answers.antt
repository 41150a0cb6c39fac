-- `raise_cells` meets its contract: the cells before place `cell-index` are raised, the others are as they were.
use native.Mathlib.Omega.{arith}
use lib.IntN.{pos}
use Rattle.correlate_spec.proofs.Along.{pass_none}
use Rattle.correlate_raised_terms.proofs.RaisedCells.{raise_fits, raise_more, raise_all}
use Rattle.correlate_raised_terms.proofs.terms.raise_cells.Goals as goal

pub loop-cell-init : goal.loop-cell-init
loop-cell-init c = pass_none (pos 0) _ _

pub overflow_add-cell : goal.overflow_add-cell
overflow_add-cell c = raise_fits c.requires c.loop-cell.invariant (omega arith) _ (omega arith)

pub loop-cell-preserved : goal.loop-cell-preserved
loop-cell-preserved c = raise_more c.requires c.loop-cell.invariant (omega arith)

pub shape_of-line : goal.shape_of-line
shape_of-line c = c.loop-cell.invariant.stored.kept

pub returns : goal.returns
returns c = raise_all c.loop-cell.invariant (omega arith)
