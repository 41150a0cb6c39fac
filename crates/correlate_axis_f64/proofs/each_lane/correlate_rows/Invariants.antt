-- `correlate_rows` meets its contract: the lanes below the one that the loop has reached are written, each as a part of out.
use lib.Ieee.{nan}
use Rattle.border.specs.Modes.{border_of_f64}
use Rattle.direction.specs.Direction.{directed}
use Rattle.pad_line.proofs.RowLoop.{RowLoop}
use Rattle.correlate_spec.specs.Weighed.{float_ops, weighed_line}
use Rattle.correlate_axis_f64.proofs.each_lane.correlate_rows.Given as goal

abbrev pub invariant-loop-lane : goal.invariant-loop-lane
invariant-loop-lane l =
    RowLoop nan (weighed_line float_ops l.class (directed l.backward l.weights)) (border_of_f64 l.mode) l.shape l.axis l.left l.right l.data l.initial.out l.n l.count l.line l.out l.base l.lane
