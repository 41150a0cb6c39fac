-- `correlate_lanes` meets its contract: the lanes below the one that the loop has reached are written.
use lib.Ieee.{nan}
use Rattle.border.specs.Modes.{border_of_f64}
use Rattle.direction.specs.Direction.{directed}
use Rattle.pad_line.proofs.ColumnLoop.{ColumnLoop}
use Rattle.correlate_spec.specs.Weighed.{float_ops, weighed_line}
use Rattle.correlate_axis_f64.proofs.each_lane.correlate_lanes.Given as goal

abbrev pub invariant-loop-lane : goal.invariant-loop-lane
invariant-loop-lane l =
    ColumnLoop nan (weighed_line float_ops l.class (directed l.backward l.weights)) (border_of_f64 l.mode) l.shape l.axis l.left l.right l.data l.initial.out l.n l.stride l.count l.line l.swept l.out l.start l.lane
