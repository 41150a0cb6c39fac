-- `weigh` meets its contract: an accepted origin has its pads, and the lanes are summed with them.
use mathlib.Core.Path.{◌≡◌, sym}
use lib.ListN.{length}
use mir.Syntax.{w64}
use mir.Val.{to_z, of_z}
use Rattle.symmetry_spec.specs.declared.SymmetryState.TheVariants.{NonSymmetric}
use Rattle.correlate_spec.specs.Weighed.{whole_ops}
use Rattle.window_spec.proofs.Reach.{pads_are}
use Rattle.correlate1d.proofs.Weighed.{window_origin, two_weights, pads_total, sweep_weighed, weighed_answer}
use borrow.Author.Rules.{rules}
use Rattle.correlate1d.proofs.weigh.Goals as goal

pub correlate_axis-requires : goal.correlate_axis-requires
correlate_axis-requires c =
    let a = c.args in
    let W = c.requires.placed in
    let e : to_z w64 (of_z w64 a.origin) ≡ a.origin = search rules in
    let G = pads_are (length a.weights.now) a.origin (two_weights W) (window_origin W) (rw e at c.origin_check.ensures.pads) c.in-Pads.is in
    (sweep_weighed W G.left G.right, sym (pads_total W G.left G.right), c.requires.small)

pub returns-in-Pads : goal.returns-in-Pads
returns-in-Pads c =
    let a = c.args in
    let W = c.requires.placed in
    let e : to_z w64 (of_z w64 a.origin) ≡ a.origin = search rules in
    let G = pads_are (length a.weights.now) a.origin (two_weights W) (window_origin W) (rw e at c.origin_check.ensures.pads) c.in-Pads.is in
    weighed_answer W G.left G.right whole_ops NonSymmetric a.backward c.correlate_axis.ensures
