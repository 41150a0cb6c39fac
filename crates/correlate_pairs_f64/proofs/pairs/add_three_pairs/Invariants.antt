-- `add_three_pairs` meets its contract: along the row, each cell gets the terms of its next three pairs.
use Prim.Native.Nat.{◌+◌}
use lib.Ieee.{nan}
use Rattle.direction.specs.Direction.{directed}
use Rattle.correlate_spec.specs.Weighed.{float_ops, pairs_to}
use Rattle.correlate_spec.specs.Joined.{joined_by}
use Rattle.correlate_spec.proofs.Along.{Pass}
use Rattle.correlate_pairs_f64.proofs.pairs.add_three_pairs.Given as goal

abbrev pub invariant-loop-i : goal.invariant-loop-i
invariant-loop-i l = Pass nan (pairs_to float_ops (joined_by float_ops l.minus) (directed l.backward l.weights) l.line (l.left + 3)) l.initial.out l.n l.i l.out
