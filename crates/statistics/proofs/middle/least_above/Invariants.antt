-- `least_above` meets its contract. The loop's invariant: the least of `least` and the levels above z that are left is the least of all those above z.
use mathlib.Core.List.{map}
use mathlib.Core.Path.{◌≡◌}
use lib.ListN.{drop}
use lib.Signed.{le_z}
use Rattle.numbers.specs.Order.{extreme_from}
use Rattle.statistics_spec.specs.Sorting.{past, least_above}
use Rattle.statistics.proofs.middle.least_above.Given as goal

abbrev pub invariant-loop-x : goal.invariant-loop-x
invariant-loop-x l = extreme_from le_z l.least (map (past le_z l.z l.top) (drop l.x-index l.levels)) ≡ least_above le_z l.z l.top l.levels
