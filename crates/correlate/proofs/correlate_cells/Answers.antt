-- `correlate_cells` meets its contract: the weights are summed in their direction with the applied origin.
use mathlib.Core.Path.{◌≡◌, ◌∙◌}
use lib.ListN.{length}
use mir.Syntax.{w64}
use mir.Val.{to_z, of_z}
use Rattle.border.specs.Modes.{border_of}
use Rattle.window_spec.specs.Window.{applied_origin, kernel_left}
use Rattle.direction.specs.Direction.{directed}
use Rattle.correlate_spec.specs.Kernel.{side_of_lem}
use Rattle.correlate.proofs.Accepted.{passed, suits_as, own_sides}
use borrow.Author.Rules.{rules}
use Rattle.correlate.proofs.correlate_cells.Goals as goal

pub sum_windows-requires : goal.sum_windows-requires
sum_windows-requires c =
    let a = c.args in
    let e : to_z w64 (of_z w64 a.origin) ≡ a.origin = search rules in
    let r : to_z w64 (of_z w64 c.applied_origin-applied.result) ≡ c.applied_origin-applied.result = search rules in
    suits_as a.out.now (passed a.convolution (border_of a.mode) a.origin a.sides.now a.weights.now a.shape.now a.«data».now (length a.out.now) c.requires) c.len_of-side.ensures
    (r ∙ c.applied_origin-applied.ensures ∙ (λ j. applied_origin a.convolution (c.len_of-side.ensures j) (e j)))

pub returns : goal.returns
returns c =
    let a = c.args in
    let e : to_z w64 (of_z w64 a.origin) ≡ a.origin = search rules in
    let r : to_z w64 (of_z w64 c.applied_origin-applied.result) ≡ c.applied_origin-applied.result = search rules in
    (rw (r, c.applied_origin-applied.ensures, c.len_of-side.ensures, e) at c.sum_windows.ensures)
    ∙ own_sides a.out.now (passed a.convolution (border_of a.mode) a.origin a.sides.now a.weights.now a.shape.now a.«data».now (length a.out.now) c.requires)
    (kernel_left (side_of_lem a.sides.now) (applied_origin a.convolution (side_of_lem a.sides.now) a.origin)) (directed a.convolution a.weights.now)
