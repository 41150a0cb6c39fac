-- `check_pairs_f64` meets its contract. The loop's invariant: no pair at a smaller distance differs, and the state is the one
-- handed in. The measure is how many distances are left.
use Prim.Native.Nat.{◌+◌, ◌-◌}
use lib.Ieee.{nan}
use Rattle.direction.specs.Direction.{directed}
use Rattle.symmetry_spec.specs.Class.{differ_f}
use Rattle.symmetry_spec.proofs.Search.{Passed}
use Rattle.symmetry.proofs.check_pairs_f64.Given as goal

abbrev pub invariant-loop-i : goal.invariant-loop-i
invariant-loop-i l = Passed (differ_f l.turned) nan (directed l.backward l.weights) l.middle l.initial.found l.found l.i

abbrev pub decreases-loop-i : goal.decreases-loop-i
decreases-loop-i l = l.middle + 1 - l.i
