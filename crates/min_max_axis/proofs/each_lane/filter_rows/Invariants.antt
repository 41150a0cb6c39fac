-- `min_max_axis::each_lane::filter_rows` meets its contract: the lanes below the one that the loop has reached are written, each as a part of out.
use Prim.Native.Nat.{◌+◌}
use lib.IntN.{pos}
use Rattle.border.specs.Modes.{border_of}
use Rattle.pad_line.proofs.RowLoop.{RowLoop}
use Rattle.min_max_axis.specs.Lane.{order_of, extremes_by}
use Rattle.min_max_axis.proofs.each_lane.filter_rows.Given as goal

abbrev pub invariant-loop-lane : goal.invariant-loop-lane
invariant-loop-lane l =
    RowLoop (pos 0) (extremes_by (order_of l.extreme) (l.left + l.right + 1)) (border_of l.mode) l.shape l.axis l.left l.right l.data l.initial.out l.n l.count l.line l.out l.base l.lane
