-- `gather` meets its contract: every cell of the line is stored.
use native.Mathlib.Omega.{arith}
use lib.IntN.{pos}
use Rattle.numbers.proofs.Stored.{front-all}
use Rattle.lanes.specs.Lanes.{lane_at}
use Rattle.lane_cells.proofs.gather.Goals as goal

pub returns : goal.returns
unfolding lane_at
returns c = front-all (pos 0) _ (omega arith) c.loop-i.invariant
