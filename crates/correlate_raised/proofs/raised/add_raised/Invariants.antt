-- `add_raised` meets its contract: from the row of starts, each turn adds the raised terms of four weights to the whole row, and then of
-- one; the last row has the plain sums. Assumes nothing.
use mathlib.Core.Path.{◌≡◌}
use Prim.Native.Nat.{◌-◌, ◌≤◌}
use lib.ListN.{length}
use Rattle.correlate_spec.proofs.Along.{Row}
use Rattle.direction.specs.Direction.{directed}
use Rattle.correlate_raised.specs.Raised.{raised_to}
use Rattle.correlate_raised_terms.specs.Products.{lowered}
use Rattle.correlate_raised.proofs.raised.add_raised.Given as goal

abbrev pub invariant-loop-taken : goal.invariant-loop-taken
invariant-loop-taken l =
    (l.taken ≤ l.count) × (l.count ≡ length l.weights) × Row (raised_to l.by (directed l.backward l.weights) (lowered l.line) l.taken) (length l.initial.out) l.out

abbrev pub decreases-loop-taken : goal.decreases-loop-taken
decreases-loop-taken l = l.count - l.taken

abbrev pub invariant-loop-k : goal.invariant-loop-k
invariant-loop-k l = (l.count ≡ length l.weights) × Row (raised_to l.by (directed l.backward l.weights) (lowered l.line) l.k) (length l.initial.out) l.out
