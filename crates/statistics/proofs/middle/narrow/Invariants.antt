-- `narrow` meets its contract: the levels are stored from the front, and each fits 32 bits.
use lib.Dec.{ltb}
use lib.IntN.{pos}
use lib.ListN.{get_or}
use Rattle.numbers.proofs.Stored.{Stored}
use Rattle.statistics.proofs.middle.narrow.Given as goal

abbrev pub invariant-loop-k : goal.invariant-loop-k
invariant-loop-k l = Stored (pos 0) (λ j. ltb j l.k) (λ j. get_or l.line j (pos 0)) l.initial.levels l.levels
