-- `correlate_cells` meets its contract: one weight multiplies every cell, more are weighed in their direction with the applied origin.
use mathlib.Core.Path.{◌≡◌, ◌∙◌}
use lib.ListN.{length}
use mir.Syntax.{w64}
use mir.Val.{to_z, of_z}
use Rattle.border.specs.Modes.{border_of}
use Rattle.window_spec.specs.Window.{applied_origin}
use Rattle.symmetry_spec.specs.declared.SymmetryState.TheVariants.{NonSymmetric}
use Rattle.correlate_spec.specs.Weighed.{whole_ops}
use Rattle.correlate1d.proofs.Passed.{passed}
use Rattle.correlate1d.proofs.Accepted.{scaled_cells, weighs_accepted}
use Rattle.correlate1d.proofs.Weighed.{weighs_as}
use Rattle.correlate1d.proofs.Stores.{one-weight}
use borrow.Author.Rules.{rules}
use Rattle.correlate1d.proofs.correlate_cells.Goals as goal

pub returns-then-weights-eq1 : goal.returns-then-weights-eq1
returns-then-weights-eq1 c =
    let a = c.args in
    scaled_cells a.out.now (passed a.convolution (border_of a.mode) a.origin a.weights.now a.shape.now a.axis a.«data».now (length a.out.now) c.requires) c.scale.ensures
    ∙ one-weight whole_ops (border_of a.mode) NonSymmetric (applied_origin a.convolution (length a.weights.now) a.origin) a.convolution a.weights.now a.shape.now a.axis
    a.«data».now c.if-weights-eq1.true

pub weigh-requires : goal.weigh-requires
weigh-requires c =
    let a = c.args in
    let e : to_z w64 (of_z w64 a.origin) ≡ a.origin = search rules in
    let r : to_z w64 (of_z w64 c.applied_origin-applied.result) ≡ c.applied_origin-applied.result = search rules in
    weighs_as (weighs_accepted a.out.now (passed a.convolution (border_of a.mode) a.origin a.weights.now a.shape.now a.axis a.«data».now (length a.out.now) c.requires) c.if-weights-eq1.false)
    (r ∙ (rw e at c.applied_origin-applied.ensures))
