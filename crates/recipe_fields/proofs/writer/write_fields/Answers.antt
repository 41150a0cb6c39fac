-- `write_fields` meets its contract: the writer's answers, or the judge's number and then 100.
use mathlib.Core.Path.{sym, ◌∙◌}
use Rattle.recipe_fields.proofs.Judge.{answers_held, answers_unheld}
use Rattle.recipe_fields.proofs.writer.write_fields.Goals as goal

pub returns-then-bad_fields : goal.returns-then-bad_fields
returns-then-bad_fields c =
    let j = rw c.steps_from-steps.ensures at c.judge_recipe-judged.ensures in
    answers_unheld _ (sym c.bad_fields.ensures ∙ c.if-bad_fields.true) _ (tt, (tt, tt)) j c.or_unknown.ensures

pub returns : goal.returns
returns c = answers_held _ (sym c.bad_fields.ensures ∙ c.if-bad_fields.false) (rw c.steps_from-steps.ensures at c.write_recipe.ensures)
