-- `any_outside` meets its contract: a line of near levels has none outside.
use Rattle.std.proofs.Common.{sym, ◌∙◌}
use Rattle.array_levels.proofs.Raising.{none-outside}
use Rattle.array_levels.proofs.level_range.any_outside.Goals as goal

pub returns-else-any_far : goal.returns-else-any_far
returns-else-any_far c = c.if-any_far.false ∙ sym (none-outside c.args.line.now (sym c.any_far.ensures ∙ c.if-any_far.false))
