-- `read_recipe` meets its contract: each return is the answer of the tests on its way.
use native.Mathlib.Omega.{arith}
use mathlib.Core.List.{List}
use mathlib.Core.Path.{sym, ap, ◌∙◌}
use lib.ListN.{get_or, take}
use Rattle.recipe_spec.specs.Recipes.{bad_step}
use Rattle.recipe_spec.specs.declared.Step.{Step}
use Rattle.numbers.specs.Lists.{any_of}
use Rattle.recipe_spec.proofs.Read.{reads, read_0}
use Rattle.recipe_spec.proofs.Judge.{mark_is, count_is}
use Rattle.recipe_file.proofs.reader.read_recipe.Goals as goal

pub bounds-file-5 : goal.bounds-file-5
bounds-file-5 c = (mark_is _ (sym c.bad_mark.ensures ∙ c.if-bad_mark.false)).0

pub steps_of-steps-requires : goal.steps_of-steps-requires
steps_of-steps-requires c = let a = count_is _ _ (sym c.bad_step_count.ensures ∙ c.if-bad_step_count.false) in record { count_in_bounds = omega arith; count_bound = a.1 }

pub bad_steps-requires : goal.bad_steps-requires
bad_steps-requires c = (count_is _ _ (sym c.bad_step_count.ensures ∙ c.if-bad_step_count.false)).1

pub returns : goal.returns
returns c =
    let f = c.args.file.now in
    reads f c.type_inv.file
    (ap (λ (l : List Step). record { number = 0; count = get_or f 5 0; steps = l }) c.steps_of-steps.ensures
    ∙ read_0 f (sym c.bad_mark.ensures ∙ c.if-bad_mark.false) (sym c.bad_step_count.ensures ∙ c.if-bad_step_count.false)
    (sym (c.bad_steps.ensures ∙ ap (λ l. any_of bad_step (take (get_or f 5 0) l)) c.steps_of-steps.ensures) ∙ c.if-bad_steps.false))
