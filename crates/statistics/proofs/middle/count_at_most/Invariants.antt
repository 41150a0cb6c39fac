-- `count_at_most` meets its contract. The loop's invariant: `count` and the count of the levels that are left are the count of all.
use Prim.Native.Nat.{◌+◌, ◌≤◌}
use mathlib.Core.Path.{◌≡◌}
use lib.ListN.{drop}
use lib.Signed.{le_z}
use Rattle.statistics_spec.specs.Sorting.{at_most}
use Rattle.statistics.proofs.middle.count_at_most.Given as goal

abbrev pub invariant-loop-x : goal.invariant-loop-x
invariant-loop-x l = (l.count ≤ l.x-index) × (l.count + at_most le_z l.z (drop l.x-index l.levels) ≡ at_most le_z l.z l.levels)
