-- `judge_call` meets its contract: the grid's number, or the number of the window along the axis.
use mathlib.Core.Path.{◌≡◌, ap, ◌∙◌}
use mathlib.Core.List.{[], ◌∷◌}
use mir.Syntax.{w64}
use mir.Val.{to_z, of_z}
use lib.ListN.{length}
use borrow.Author.Rules.{rules}
use Rattle.numbers.specs.Refusal.{refusal_of}
use Rattle.array_spec.specs.Conditions.{bad_level}
use Rattle.array_spec.proofs.Judged.{grid_accepted}
use Rattle.min_max_spec.specs.Call.{window_judged}
use Rattle.min_max_judge.specs.Judge.{call_of}
use Rattle.min_max_judge.proofs.judge_call.Goals as goal

pub returns : goal.returns
returns c =
    let a = c.args in
    let e : to_z w64 (of_z w64 a.origin) ≡ a.origin = search rules in
    grid_accepted bad_level a.shape.now a.«data».now (length a.out.now ∷ [])
    (window_judged (call_of a.shape.now a.size a.axis a.mode a.origin [])) c.in_ok-judge_grid.ensures
    (c.judge_window.ensures ∙ ap (λ o. refusal_of (window_judged (call_of a.shape.now a.size a.axis a.mode o []))) e)
