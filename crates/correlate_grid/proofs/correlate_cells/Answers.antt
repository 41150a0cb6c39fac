-- `correlate_cells` meets its contract: the sums on three axes are the answer.
use Rattle.correlate_grid.proofs.Accepted.{laid_on, answered}
use Rattle.correlate_grid.proofs.Directed.{call-directed}
use Rattle.correlate_grid.proofs.correlate_cells.Goals as goal

pub correlate_three-requires : goal.correlate_three-requires
correlate_three-requires c = let s = c in (laid_on s.requires c.axes_of-axes.ensures, s.requires.same)

pub returns : goal.returns
returns c =
    let s = c in
    answered (call-directed s.args.backward s.requires) c.axes_of-axes.ensures c.correlate_three.ensures
