-- `scatter_f64` meets its contract: the cells of the lane are written one after the other, and no other cell changes.
use lib.Ieee.{nan}
use Rattle.lanes.proofs.Stores.{Written}
use Rattle.lane_cells.proofs.float.scatter_f64.Given as goal

abbrev pub invariant-loop-i : goal.invariant-loop-i
invariant-loop-i l = Written nan l.line l.stride l.lane l.initial.grid l.grid l.i
