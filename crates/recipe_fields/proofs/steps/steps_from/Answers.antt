-- `steps_from` meets its contract: the steps are stored from the front.
use native.Mathlib.Omega.{arith}
use mathlib.Core.Path.{ap, ◌∙◌}
use Rattle.numbers.specs.Lists.{tabulate}
use Rattle.numbers.proofs.Stored.{front-all}
use Rattle.recipe_spec.specs.Recipes.{no_step}
use Rattle.recipe_fields.proofs.steps.steps_from.Goals as goal

pub returns : goal.returns
returns c =
    let l = c.loop-k in
    front-all no_step _ (omega (arith, l.invariant.0)) l.invariant.1 ∙ ap (tabulate _ 0) l.invariant.0
