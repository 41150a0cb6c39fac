-- `judge_filter` meets its contract: the grid's number, or the number of the window along every axis.
use mathlib.Core.Path.{◌≡◌, ap, ◌∙◌}
use mathlib.Core.List.{[], ◌∷◌}
use mir.Syntax.{w64}
use mir.Val.{to_z, of_z}
use lib.ListN.{length}
use borrow.Author.Rules.{rules}
use Rattle.numbers.specs.Refusal.{refusal_of}
use Rattle.std.proofs.lemmas.Result.{err_from_is_err_and}
use Rattle.array_spec.specs.Conditions.{bad_level}
use Rattle.array_spec.proofs.Judged.{grid_refused, grid_accepted}
use Rattle.min_max_judge.specs.Judge.{grid_call_of, filter_axes_judged}
use Rattle.min_max_judge.proofs.judge_filter.Goals as goal

pub returns-in_err-judge_grid : goal.returns-in_err-judge_grid
returns-in_err-judge_grid c =
    let p = err_from_is_err_and c.from_residual.result c.from_residual.ensures.1 in
    let a = c.args in
    rw (p.1, p.2)
    (grid_refused bad_level a.shape.now a.«data».now (length a.out.now ∷ a.second ∷ [])
    (filter_axes_judged (grid_call_of a.shape.now a.size a.modes a.origin [])) _ c.in_err-judge_grid.ensures)

pub returns : goal.returns
returns c =
    let a = c.args in
    let e : to_z w64 (of_z w64 a.origin) ≡ a.origin = search rules in
    grid_accepted bad_level a.shape.now a.«data».now (length a.out.now ∷ a.second ∷ [])
    (filter_axes_judged (grid_call_of a.shape.now a.size a.modes a.origin [])) c.in_ok-judge_grid.ensures
    (c.judge_axes.ensures ∙ ap (λ o. refusal_of (filter_axes_judged (grid_call_of a.shape.now a.size a.modes o []))) e)
