-- `average_lanes` meets its contract: the lanes below the one that the loop has reached are written.
use Prim.Native.Nat.{◌+◌}
use lib.IntN.{pos}
use Rattle.lanes.specs.Starts.{Starts}
use Rattle.border.specs.Modes.{border_of}
use Rattle.pad_line.proofs.EveryLane.{Sweeping}
use Rattle.uniform_axis.specs.MeanAxisNeeds.{means_by}
use Rattle.uniform_axis.proofs.lane_loop.average_lanes.Given as goal

abbrev pub invariant-loop-lane : goal.invariant-loop-lane
invariant-loop-lane l =
    Sweeping (pos 0) (means_by (l.left + l.right + 1)) (border_of l.mode) l.shape l.axis l.left l.right l.data l.initial.out l.n l.stride l.count l.lane l.line l.out × Starts l.n l.stride l.lane l.start
