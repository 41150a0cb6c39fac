-- `steps_of` meets its contract: the steps are stored from the front into sixteen that are all 0.
use Prim.Native.Nat.{◌+◌, ◌*◌}
use lib.ListN.{replicate}
use lib.Dec.{ltb}
use Rattle.recipe_spec.specs.Recipes.{no_step, step_at}
use Rattle.numbers.proofs.Stored.{Stored}
use Rattle.recipe_file.proofs.reader.steps_of.Given as goal

abbrev pub invariant-loop-k : goal.invariant-loop-k
invariant-loop-k l = Stored no_step (λ j. ltb j l.k) (λ j. step_at l.file (6 + 7 * j)) (replicate 16 no_step) l.steps
