-- `row_start` meets its contract: counted from the end, or from the front.
use mathlib.Core.Path.{sym}
use Rattle.numbers.proofs.Tests.{cond_yes}
use Rattle.correlate_grid_row.proofs.row.row_start.Goals as goal

pub returns-then-backward : goal.returns-then-backward
returns-then-backward c = sym (cond_yes _ _ _ c.if-backward.true)
