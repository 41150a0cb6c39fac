-- `steps_of` meets its contract: the steps are stored from the front into sixteen that are all 0.
use Prim.Native.Nat.{◌+◌, ◌*◌}
use native.Mathlib.Omega.{arith}
use Rattle.recipe_spec.proofs.Steps.{sixteen_stored}
use Rattle.recipe_spec.specs.Recipes.{no_step, step_at}
use Rattle.numbers.proofs.Stored.{front-more}
use Rattle.recipe_file.proofs.reader.steps_of.Goals as goal

pub loop-k-preserved : goal.loop-k-preserved
loop-k-preserved c =
    front-more no_step (λ j. step_at c.args.file.now (6 + 7 * j)) c.step_at.result (omega arith) c.loop-k.invariant c.step_at.ensures

pub returns : goal.returns
returns c =
    sixteen_stored c.args.count c.loop-k.k (λ j. step_at c.args.file.now (6 + 7 * j)) c.loop-k.steps (omega arith) c.loop-k.invariant
