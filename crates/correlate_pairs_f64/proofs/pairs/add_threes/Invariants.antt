-- `add_threes` meets its contract: each turn adds the terms of three pairs to the whole row.
use mathlib.Core.Path.{◌≡◌}
use Prim.Native.Nat.{◌/◌, ◌-◌, ◌≤◌}
use lib.ListN.{length}
use Rattle.direction.specs.Direction.{directed}
use Rattle.correlate_spec.specs.Weighed.{float_ops, pairs_to}
use Rattle.correlate_spec.proofs.Along.{Row}
use Rattle.correlate_spec.specs.Joined.{joined_by}
use Rattle.correlate_pairs_f64.proofs.pairs.add_threes.Given as goal

abbrev pub invariant-loop-left : goal.invariant-loop-left
invariant-loop-left l = (l.left ≤ length l.weights / 2) × (l.right ≡ length l.weights - 1 - l.left)
    × Row (pairs_to float_ops (joined_by float_ops l.minus) (directed l.backward l.weights) l.line l.left) (length l.initial.out) l.out

abbrev pub decreases-loop-left : goal.decreases-loop-left
decreases-loop-left l = length l.weights - l.left
