-- `signed8_of` meets its contract: the number where 8 signed bits hold it, else 0.
use mathlib.Core.Path.{ap, ◌∙◌}
use mir.Syntax.{w8, w64}
use mir.ValLaws.{to_z-of_z}
use Rattle.recipe_fields.specs.Fields.{signed8_of}
use Rattle.recipe_fields.proofs.Held.{held8}
use Rattle.recipe_fields.proofs.ranges.signed8_of.Goals as goal

pub returns : goal.returns
returns c =
    let u = c.unwrap_or in
    to_z-of_z w8 u.result (record { sfits = u.type_inv })
    ∙ u.ensures
    ∙ held8 _ _ c.try_from.ensures
    ∙ ap signed8_of (to_z-of_z w64 c.args.z c.ranges.z)
