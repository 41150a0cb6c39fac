-- `judge_correlate_f64` meets its contract: the grid's number, or the number of the weights and their place.
use mathlib.Core.Path.{◌≡◌, ap, ◌∙◌}
use mathlib.Core.List.{[], ◌∷◌}
use mir.Syntax.{w64}
use mir.Val.{to_z, of_z}
use lib.ListN.{drop}
use Rattle.array_spec.specs.Conditions.{bad_float}
use Rattle.array_spec.proofs.Judged.{grid_accepted}
use Rattle.border.specs.Modes.{border_of, border_of_f64}
use Rattle.border.specs.declared.BorderMode.{BorderMode}
use Rattle.border.specs.Reach.{bad_pad}
use Rattle.correlate_judge_spec.specs.Judge.{correlate_judged_f}
use Rattle.correlate_judge_spec.proofs.Chain.{SamePads, kind_pads, weighed}
use borrow.Author.Rules.{rules}
use Rattle.correlate_judge.proofs.judge_correlate_f64.Goals as goal

pub returns : goal.returns
returns c =
    let a = c.args in
    let e : to_z w64 (of_z w64 a.origin) ≡ a.origin = search rules in
    let kind = border_of c.kind_of.result in
    let same_pads : SamePads kind (border_of_f64 a.mode) = λ n pad. ap (λ (m : BorderMode). bad_pad (border_of m) n pad) c.kind_of.ensures ∙ kind_pads a.mode n pad in
    grid_accepted bad_float a.shape.now a.«data».now (a.out ∷ [])
    (drop 3 (correlate_judged_f a.convolution (border_of_f64 a.mode) a.origin a.weights.now a.shape.now a.axis a.«data».now a.out)) c.in_ok-judge_grid_f64.ensures
    (weighed bad_float bad_float a.convolution (border_of_f64 a.mode) a.weights.now a.shape.now a.axis kind c.bad_levels_f64-weights_bad.ensures c.bad_constant_f64-constant_bad.ensures same_pads e
    c.judge_weighing.ensures)
