-- `add_line` meets its contract: the passes by fours leave three weights, which one pass adds, or fewer, which are added one a turn. The invariant speaks of
-- whatever the row held before them. Assumes nothing.
use mathlib.Core.Path.{◌≡◌}
use mathlib.Core.List.{List}
use lib.IntN.{ℤ}
use lib.ListN.{length}
use Rattle.direction.specs.Direction.{directed}
use Rattle.correlate_plain.proofs.Passes.{Adding}
use Rattle.correlate_plain.proofs.plain.add_line.Given as goal

abbrev pub invariant-loop-k : goal.invariant-loop-k
invariant-loop-k l =
    (l.count ≡ length l.weights) × ((held : List ℤ) → Adding (directed l.backward l.weights) l.line held l.taken l.initial.out → Adding (directed l.backward l.weights) l.line held l.k l.out)
