-- `copy` meets its contract: the cells are stored from the front, and in the end they are those of `from`.
use mathlib.Core.Path.{◌≡◌}
use lib.Dec.{ltb}
use lib.IntN.{pos}
use lib.ListN.{length, get_or}
use Rattle.numbers.proofs.Stored.{Stored}
use Rattle.array.proofs.copies.copy.Given as goal

abbrev pub invariant-loop-i : goal.invariant-loop-i
invariant-loop-i l = (length l.from ≡ length l.initial.to) × Stored (pos 0) (λ k. ltb k l.i) (λ k. get_or l.from k (pos 0)) l.initial.to l.to
