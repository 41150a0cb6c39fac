-- `scale` meets its contract: the output is filled from the front with products, each of which fits.
use lib.Dec.{ltb}
use lib.IntN.{pos, ◌*ℤ◌}
use lib.ListN.{get_or}
use Rattle.numbers.proofs.Stored.{Stored}
use Rattle.correlate1d.proofs.scale.Given as goal

abbrev pub invariant-loop-i : goal.invariant-loop-i
invariant-loop-i l = Stored (pos 0) (λ k. ltb k l.i) (λ k. get_or l.data k (pos 0) *ℤ l.weight) l.initial.out l.out
