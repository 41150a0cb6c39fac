-- `judge_recipe` meets its contract: the count that condition 14 accepts is at most 16.
use mathlib.Core.Path.{sym, ◌∙◌}
use Rattle.recipe_spec.proofs.Judge.{count_is}
use Rattle.recipe_file.proofs.conditions.judge_recipe.Goals as goal

pub bad_steps-requires : goal.bad_steps-requires
bad_steps-requires c = (count_is _ _ (sym c.bad_step_count.ensures ∙ c.if-bad_step_count.false)).1
