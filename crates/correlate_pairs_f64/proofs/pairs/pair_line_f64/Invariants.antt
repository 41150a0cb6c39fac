-- `pair_line_f64` meets its contract: from the row of the middle cells and the outermost pairs, the passes by threes go on, and each turn adds the term of one
-- pair that they left. A single weight has no pair.
use mathlib.Core.Path.{◌≡◌}
use Prim.Native.Nat.{◌/◌, ◌-◌, ◌≤◌}
use lib.ListN.{length}
use Rattle.direction.specs.Direction.{directed}
use Rattle.correlate_spec.specs.Weighed.{float_ops, pairs_to}
use Rattle.correlate_spec.proofs.Along.{Row}
use Rattle.correlate_spec.specs.Joined.{joined_by}
use Rattle.correlate_pairs_f64.proofs.pairs.pair_line_f64.Given as goal

abbrev pub invariant-loop-left : goal.invariant-loop-left
invariant-loop-left l = (l.left ≤ l.count / 2) × (l.count ≡ length l.weights) × (l.right ≡ length l.weights - 1 - l.left)
    × Row (pairs_to float_ops (joined_by float_ops l.minus) (directed l.backward l.weights) l.line l.left) (length l.initial.out) l.out

abbrev pub decreases-loop-left : goal.decreases-loop-left
decreases-loop-left l = l.count - l.left
