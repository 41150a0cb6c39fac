-- `gather_f64` meets its contract: every cell of the line is stored.
use native.Mathlib.Omega.{arith}
use lib.Ieee.{nan}
use Rattle.numbers.proofs.Stored.{front-all}
use Rattle.lanes.specs.Lanes.{lane_at}
use Rattle.lane_cells.proofs.float.gather_f64.Goals as goal

pub returns : goal.returns
unfolding lane_at
returns c = front-all nan _ (omega arith) c.loop-i.invariant
