-- `not_served` meets its contract: a line that is not too long is served unless a level is outside.
use Rattle.std.proofs.Common.{sym, ◌∙◌, rules, lt-ltb}
use Rattle.statistics_spec.proofs.Served.{unserved_long, unserved_short}
use Rattle.statistics_mean.proofs.means.not_served.Goals as goal

pub returns-then-line-gt-MOST_CELLS : goal.returns-then-line-gt-MOST_CELLS
returns-then-line-gt-MOST_CELLS c = lt-ltb 1024 _ c.if-line-gt-MOST_CELLS.true ∙ unserved_long c.args.line.now (search rules)

pub returns-else-line-gt-MOST_CELLS : goal.returns-else-line-gt-MOST_CELLS
returns-else-line-gt-MOST_CELLS c = unserved_short c.args.line.now (search rules) (sym c.any_outside.ensures)
