-- `scatter` meets its contract: the cells of the lane are written one after the other.
use mathlib.Core.Path.{refl}
use native.Mathlib.Omega.{arith}
use lib.ListN.{length}
use Rattle.numbers.proofs.Read.{read}
use Rattle.lanes.proofs.Cells.{index_in}
use Rattle.lanes.proofs.Stores.{written_more, written_all}
use Rattle.lane_cells.proofs.scatter.Goals as goal

pub loop-i-preserved : goal.loop-i-preserved
loop-i-preserved c =
    let r = c.requires in
    let i_in = c.loop-i-test.true in
    written_more _ r.1 r.2 i_in (index_in c.args.base c.args.stride (length c.args.grid.now) i_in r.3) (read c.v-1.given refl)
    c.loop-i.invariant

pub returns : goal.returns
returns c = written_all c.requires.0 (omega arith) c.loop-i.invariant
