-- `scatter` meets its contract: the cells of the lane are written one after the other, and no other cell changes.
use lib.IntN.{pos}
use Rattle.lanes.proofs.Stores.{Written}
use Rattle.lane_cells.proofs.scatter.Given as goal

abbrev pub invariant-loop-i : goal.invariant-loop-i
invariant-loop-i l = Written (pos 0) l.line l.stride l.lane l.initial.grid l.grid l.i
