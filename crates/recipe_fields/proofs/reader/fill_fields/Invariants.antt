-- `fill_fields` meets its contract: the numbers are stored from the front.
use mathlib.Core.Path.{◌≡◌}
use lib.Dec.{ltb}
use lib.IntN.{pos}
use lib.ListN.{length, get_or}
use Rattle.numbers.proofs.Stored.{Stored}
use Rattle.recipe_fields.specs.Fields.{recipe_fields}
use Rattle.recipe_fields.proofs.reader.fill_fields.Given as goal

abbrev pub invariant-loop-i : goal.invariant-loop-i
invariant-loop-i l = (length l.initial.out ≡ 97) × Stored (pos 0) (λ k. ltb k l.i) (λ k. get_or (recipe_fields l.count l.steps) k (pos 0)) l.initial.out l.out
