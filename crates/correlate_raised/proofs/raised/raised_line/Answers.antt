-- `raised_line` meets its contract: the row of starts is made of the cells as they are, the sums of the raised ones.
use Rattle.correlate_raised.proofs.RaisedStart.{raisable}
use Rattle.correlate_raised.proofs.RaisedSums.{raised_set, raised_sums}
use Rattle.correlate_raised.proofs.raised.raised_line.Goals as goal

pub start_row-requires : goal.start_row-requires
start_row-requires c = let s = c in raisable s.requires.0 s.requires.1 c.raise_of-by.ensures

pub add_raised-requires : goal.add_raised-requires
add_raised-requires c =
    let raised = c in
    let started = raised in
    let by = started in
    let s = by in
    raised_set s.args.backward raised.raise_cells.ensures (raisable s.requires.0 s.requires.1 by.raise_of-by.ensures) started.start_row.ensures

pub returns : goal.returns
returns c =
    let raised = c in
    let started = raised in
    let by = started in
    let s = by in
    raised_sums s.args.backward raised.raise_cells.ensures (raisable s.requires.0 s.requires.1 by.raise_of-by.ensures) started.start_row.ensures c.add_raised.ensures
