-- `recipe_field` meets its contract: the count, or number r of step q.
use native.Mathlib.Omega.{arith}
use mathlib.Core.Path.{sym, ◌∙◌}
use mir.Syntax.{w64}
use mir.ValLaws.{to_z-of_z}
use Rattle.recipe_fields.specs.Fields.{recipe_fields}
use Rattle.recipe_fields.proofs.Places.{recipe_place}
use Rattle.recipe_fields.proofs.reader.recipe_field.Goals as goal

pub returns-then-i-eq0 : goal.returns-then-i-eq0
unfolding recipe_fields
returns-then-i-eq0 c = rw c.if-i-eq0.true (to_z-of_z w64 c.from.result (record { sfits = c.from.type_inv }) ∙ c.from.ensures)

pub returns : goal.returns
returns c =
    to_z-of_z w64 c.step_field.result (record { sfits = c.step_field.type_inv })
    ∙ c.step_field.ensures
    ∙ sym (recipe_place c.args.count c.args.steps c.well_formed.1.0.1.0.1 c.args.i (omega arith) (omega arith))
