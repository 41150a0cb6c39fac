-- `mark` meets its contract: the marks are stored from the front.
use mathlib.Core.Bool.{false}
use lib.Dec.{ltb}
use lib.IntN.{pos}
use lib.ListN.{get_or}
use lib.Signed.{lt_z}
use Rattle.numbers.proofs.Stored.{Stored}
use Rattle.ndimage_arguments.proofs.mark.Given as goal

abbrev pub invariant-loop-i : goal.invariant-loop-i
invariant-loop-i l = Stored false (λ k. ltb k l.i) (λ k. lt_z (pos 0) (get_or l.levels k (pos 0))) l.initial.marks l.marks
