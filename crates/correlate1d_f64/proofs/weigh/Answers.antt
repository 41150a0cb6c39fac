-- `weigh` meets its contract: an accepted origin has its pads, and the lanes are summed with them.
use mathlib.Core.Path.{◌≡◌, sym}
use lib.ListN.{length}
use mir.Syntax.{w64}
use mir.Val.{to_z, of_z}
use Rattle.direction.specs.Direction.{directed}
use Rattle.window_spec.proofs.Reach.{pads_are}
use Rattle.symmetry_spec.specs.Class.{class_f}
use Rattle.correlate_spec.specs.Weighed.{float_ops}
use Rattle.correlate1d.proofs.Weighed.{window_origin, two_weights, pads_total, sweep_weighed, weighed_answer}
use borrow.Author.Rules.{rules}
use Rattle.correlate1d_f64.proofs.weigh.Goals as goal

pub correlate_axis_f64-requires : goal.correlate_axis_f64-requires
correlate_axis_f64-requires c =
    let a = c.args in
    let W = c.requires in
    let e : to_z w64 (of_z w64 a.origin) ≡ a.origin = search rules in
    let G = pads_are (length a.weights.now) a.origin (two_weights W) (window_origin W) (rw e at c.origin_check.ensures.pads) c.in-Pads.is in
    (sweep_weighed W G.left G.right, sym (pads_total W G.left G.right))

pub returns-in-Pads : goal.returns-in-Pads
returns-in-Pads c =
    let a = c.args in
    let W = c.requires in
    let e : to_z w64 (of_z w64 a.origin) ≡ a.origin = search rules in
    let G = pads_are (length a.weights.now) a.origin (two_weights W) (window_origin W) (rw e at c.origin_check.ensures.pads) c.in-Pads.is in
    weighed_answer W G.left G.right float_ops (class_f (directed a.backward a.weights.now)) a.backward (rw c.directed_state_f64.ensures at c.correlate_axis_f64.ensures)
