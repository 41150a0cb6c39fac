-- `scale` meets its contract: the output is filled from the front with products.
use lib.Dec.{ltb}
use lib.Ieee.{binary64, mul, nan}
use lib.ListN.{get_or}
use Rattle.numbers.proofs.Stored.{Stored}
use Rattle.correlate1d_f64.proofs.scale.Given as goal

abbrev pub invariant-loop-i : goal.invariant-loop-i
invariant-loop-i l = Stored nan (λ k. ltb k l.i) (λ k. mul binary64 (get_or l.data k nan) l.weight) l.initial.out l.out
