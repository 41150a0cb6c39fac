-- `byte_of` meets its contract: the number where it is a byte, else 0.
use mathlib.Core.Path.{ap, ◌∙◌}
use mir.Syntax.{w64}
use mir.ValLaws.{to_z-of_z}
use Rattle.recipe_fields.specs.Fields.{byte_of}
use Rattle.recipe_fields.proofs.Held.{byte_held}
use Rattle.recipe_fields.proofs.ranges.byte_of.Goals as goal

pub returns : goal.returns
returns c = c.unwrap_or.ensures ∙ byte_held _ _ c.try_from.ensures ∙ ap byte_of (to_z-of_z w64 c.args.z c.ranges.z)
