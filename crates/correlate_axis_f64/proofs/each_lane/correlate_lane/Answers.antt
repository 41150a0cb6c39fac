-- `correlate_lane` meets its contract: the padded lane, summed.
use mathlib.Core.Path.{sym, ap}
use native.Mathlib.Omega.{arith}
use lib.Ieee.{nan}
use lib.ListN.{length}
use lib.Seq.{length-take-le}
use Rattle.correlate_spec.specs.Weighed.{float_ops, weighed_line}
use Rattle.direction.specs.Direction.{directed}
use Rattle.pad_line.proofs.OneLane.{length-line, front_is, lane-filtered}
use borrow.Author.Rules.{rules}
use Rattle.correlate_axis_f64.proofs.each_lane.correlate_lane.Goals as goal

pub slice_bounds-correlate_line_f64-end-2 : goal.slice_bounds-correlate_line_f64-end-2
slice_bounds-correlate_line_f64-end-2 c = sym (length-take-le _ _ ((search rules)))

pub correlate_line_f64-requires : goal.correlate_line_f64-requires
correlate_line_f64-requires c =
    let s = c in
    let e = ap length (front_is nan s.requires.0 c.pad_from_f64.ensures) in
    record { some = omega (arith, s.requires.1); long = omega (arith, s.requires.1, e, length-line nan s.requires.0) }

pub returns : goal.returns
returns c =
    let s = c in
    lane-filtered nan s.requires.0 c.pad_from_f64.ensures
    (weighed_line float_ops s.args.class (directed s.args.backward s.args.weights.now)) c.correlate_line_f64.ensures
