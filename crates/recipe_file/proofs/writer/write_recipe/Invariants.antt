-- `write_recipe` meets its contract: the judge's number, or the bytes of the file stored from the front.
use Prim.Native.Nat.{◌+◌, ◌*◌, ◌≤◌}
use mathlib.Core.Path.{◌≡◌}
use lib.ListN.{length, get_or}
use lib.Dec.{ltb}
use Rattle.recipe_spec.specs.Recipes.{file_of}
use Rattle.numbers.proofs.Stored.{Stored}
use Rattle.recipe_file.proofs.writer.write_recipe.Given as goal

abbrev pub invariant-loop-i : goal.invariant-loop-i
invariant-loop-i l =
    (l.count ≤ 16) × (length l.initial.out ≡ 6 + 7 * l.count) × Stored 0 (λ k. ltb k l.i) (λ k. get_or (file_of l.count l.steps) k 0) l.initial.out l.out
