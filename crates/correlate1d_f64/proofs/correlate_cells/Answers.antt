-- `correlate_cells` meets its contract: one weight multiplies every cell, more are weighed in their direction with the applied origin.
use mathlib.Core.Path.{◌≡◌, ◌∙◌}
use lib.ListN.{length}
use mir.Syntax.{w64}
use mir.Val.{to_z, of_z}
use Rattle.border.specs.Modes.{border_of_f64}
use Rattle.window_spec.specs.Window.{applied_origin}
use Rattle.direction.specs.Direction.{directed}
use Rattle.symmetry_spec.specs.Class.{class_f}
use Rattle.correlate_spec.specs.Weighed.{float_ops}
use Rattle.correlate1d.proofs.Passed.{passed_float, placed_accepted}
use Rattle.correlate1d.proofs.Weighed.{placed_as}
use Rattle.correlate1d.proofs.Stores.{one-weight}
use borrow.Author.Rules.{rules}
use Rattle.correlate1d_f64.proofs.correlate_cells.Goals as goal

pub returns-then-weights-eq1 : goal.returns-then-weights-eq1
returns-then-weights-eq1 c =
    let a = c.args in
    c.scale.ensures
    ∙ one-weight float_ops (border_of_f64 a.mode) (class_f (directed a.convolution a.weights.now)) (applied_origin a.convolution (length a.weights.now) a.origin) a.convolution
    a.weights.now a.shape.now a.axis a.«data».now c.if-weights-eq1.true

pub weigh-requires : goal.weigh-requires
weigh-requires c =
    let a = c.args in
    let e : to_z w64 (of_z w64 a.origin) ≡ a.origin = search rules in
    let r : to_z w64 (of_z w64 c.applied_origin-applied.result) ≡ c.applied_origin-applied.result = search rules in
    placed_as (placed_accepted a.out.now (passed_float a.convolution (border_of_f64 a.mode) a.origin a.weights.now a.shape.now a.axis a.«data».now (length a.out.now) c.requires) c.if-weights-eq1.false)
    (r ∙ (rw e at c.applied_origin-applied.ensures))
