-- `start_three_rows` meets its contract: the row is filled from the front with sums of three terms, which fit. x0 and x1 are the first two cells of the window
-- that is next.
use mathlib.Core.Path.{◌≡◌}
use Prim.Native.Nat.{◌+◌}
use lib.IntN.{pos}
use lib.ListN.{get_or}
use Rattle.direction.specs.Direction.{directed}
use Rattle.correlate_spec.specs.Weighed.{whole_ops, plain_to}
use Rattle.correlate_spec.proofs.Along.{Pass}
use Rattle.correlate_plain.proofs.set.start_three_rows.Given as goal

abbrev pub invariant-loop-i : goal.invariant-loop-i
invariant-loop-i l =
    (l.x0 ≡ get_or l.line l.i (pos 0)) × (l.x1 ≡ get_or l.line (l.i + 1) (pos 0))
    × Pass (pos 0) (plain_to whole_ops (directed l.backward l.weights) l.line 3) l.initial.out l.n l.i l.out
