-- `steps_from` meets its contract: the steps are stored from the front.
use Prim.Native.Nat.{◌*◌}
use mathlib.Core.Path.{◌≡◌}
use lib.Dec.{ltb}
use lib.ListN.{length}
use Rattle.numbers.proofs.Stored.{Stored}
use Rattle.recipe_spec.specs.Recipes.{no_step}
use Rattle.recipe_fields.specs.Fields.{step_from}
use Rattle.recipe_fields.proofs.steps.steps_from.Given as goal

abbrev pub invariant-loop-k : goal.invariant-loop-k
invariant-loop-k l = (length l.initial.steps ≡ 16) × Stored no_step (λ j. ltb j l.k) (λ j. step_from l.fields (6 * j)) l.initial.steps l.steps
