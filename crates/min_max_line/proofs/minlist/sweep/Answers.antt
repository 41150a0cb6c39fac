-- `sweep` meets its contract: what the ring serves is filled by `windows`, all else stays.
use mathlib.Core.Path.{◌∙◌}
use Rattle.numbers.proofs.Tests.{condition_is}
use Rattle.min_max_ring.proofs.RingNeeds.{swept_served, swept_else}
use Rattle.min_max_line.proofs.minlist.sweep.Goals as goal

pub returns-then-serves : goal.returns-then-serves
returns-then-serves g c =
    let a = c.args in
    c.windows.ensures ∙ swept_served g.O.Order.le a.line.now a.len a.out.now (condition_is c.serves.ensures c.if-serves.true)

pub returns-else-serves : goal.returns-else-serves
returns-else-serves g c =
    let a = c.args in
    swept_else g.O.Order.le a.line.now a.len a.out.now (condition_is c.serves.ensures c.if-serves.false)
