-- `correlate_rows` meets its contract: the lanes below the one that the loop has reached are written, each as a part of out.
use lib.IntN.{pos}
use Rattle.border.specs.Modes.{border_of}
use Rattle.direction.specs.Direction.{directed}
use Rattle.pad_line.proofs.RowLoop.{RowLoop}
use Rattle.symmetry_spec.specs.declared.SymmetryState.TheVariants.{NonSymmetric}
use Rattle.correlate_spec.specs.Weighed.{whole_ops, weighed_line}
use Rattle.correlate_axis.proofs.each_lane.correlate_rows.Given as goal

abbrev pub invariant-loop-lane : goal.invariant-loop-lane
invariant-loop-lane l =
    RowLoop (pos 0) (weighed_line whole_ops NonSymmetric (directed l.backward l.weights)) (border_of l.mode) l.shape l.axis l.left l.right l.data l.initial.out l.n l.count l.line l.out l.base l.lane
