-- `ring_cells` meets its contract, from the ring's laws at the order of O: the ring covers the cells of the window, so its front is
-- the first of them.
use Prim.Native.Nat.{◌+◌, ◌-◌}
use Rattle.min_max_ring.proofs.Ring.{Trimming}
use Rattle.min_max_ring.proofs.Steps.{Filling, Sweeping}
use Rattle.min_max_line.proofs.minlist.ring_cells.Given as goal

abbrev pub invariant-loop-last : goal.invariant-loop-last
invariant-loop-last g l = Trimming g.O.Order.le l.line l.len l.v l.i 0 l.pairs 0 l.initial.count l.count l.front l.death l.last

abbrev pub decreases-loop-last : goal.decreases-loop-last
decreases-loop-last g l = l.count

abbrev pub invariant-loop-i : goal.invariant-loop-i
invariant-loop-i g l = Filling g.O.Order.le l.line l.len l.pairs l.count l.front l.death l.i

abbrev pub invariant-loop-last-else-leads : goal.invariant-loop-last-else-leads
invariant-loop-last-else-leads g l = Trimming g.O.Order.le l.line l.len l.v l.i (l.i + 1 - l.len) l.pairs l.start l.initial.count l.count l.front l.death l.last

abbrev pub decreases-loop-last-else-leads : goal.decreases-loop-last-else-leads
decreases-loop-last-else-leads g l = l.count

abbrev pub invariant-loop-i-2 : goal.invariant-loop-i-2
invariant-loop-i-2 g l = Sweeping g.O.Order.le l.line l.len l.initial.out l.out l.pairs l.start l.count l.front l.death l.i
