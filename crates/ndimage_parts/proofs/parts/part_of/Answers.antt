-- `part_of` meets its contract: each arm is the line of its letter, and the last one a letter of no line.
use mathlib.Core.Path.{sym}
use Rattle.ndimage_spec.proofs.Letters.{part_none}
use Rattle.ndimage_parts.proofs.parts.part_of.Goals as goal

pub returns-in_default : goal.returns-in_default
returns-in_default c = sym (part_none c.args.letter c.in_default.in_default-own.rest)
