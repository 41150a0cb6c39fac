-- `unmark` meets its contract: the levels are stored from the front.
use mathlib.Core.Bool.{false}
use lib.Dec.{ltb}
use lib.IntN.{pos}
use lib.ListN.{get_or}
use Rattle.numbers.proofs.Stored.{Stored}
use Rattle.ndimage_arguments.specs.Arguments.{level_of_mark}
use Rattle.ndimage_arguments.proofs.unmark.Given as goal

abbrev pub invariant-loop-i : goal.invariant-loop-i
invariant-loop-i l = Stored (pos 0) (λ k. ltb k l.i) (λ k. level_of_mark (get_or l.marks k false)) l.initial.levels l.levels
