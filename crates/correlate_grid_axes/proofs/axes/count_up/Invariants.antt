-- `count_up` meets its contract: each cell is its own number.
use lib.Dec.{ltb}
use lib.IntN.{pos}
use Rattle.numbers.proofs.Stored.{Stored}
use Rattle.correlate_grid_axes.proofs.axes.count_up.Given as goal

abbrev pub invariant-loop-i : goal.invariant-loop-i
invariant-loop-i l = Stored (pos 0) (λ k. ltb k l.i) pos l.initial.out l.out
