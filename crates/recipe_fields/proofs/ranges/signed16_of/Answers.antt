-- `signed16_of` meets its contract: the number where 16 signed bits hold it, else 0.
use mathlib.Core.Path.{ap, ◌∙◌}
use mir.Syntax.{w16, w64}
use mir.ValLaws.{to_z-of_z}
use Rattle.recipe_fields.specs.Fields.{signed16_of}
use Rattle.recipe_fields.proofs.Held.{held16}
use Rattle.recipe_fields.proofs.ranges.signed16_of.Goals as goal

pub returns : goal.returns
returns c =
    let u = c.unwrap_or in
    to_z-of_z w16 u.result (record { sfits = u.type_inv })
    ∙ u.ensures
    ∙ held16 _ _ c.try_from.ensures
    ∙ ap signed16_of (to_z-of_z w64 c.args.z c.ranges.z)
