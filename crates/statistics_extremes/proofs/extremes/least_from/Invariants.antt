-- `least_from` meets its contract, by the laws of Running. The loop's invariant: the least of `least` and the levels from `i` on is the least of
use mathlib.Core.Path.{◌≡◌}
use lib.ListN.{drop}
use lib.Signed.{le_z}
use Rattle.numbers.specs.Order.{extreme_from}
use Rattle.statistics_extremes.proofs.extremes.least_from.Given as goal

abbrev pub invariant-loop-i : goal.invariant-loop-i
invariant-loop-i l = extreme_from le_z l.least (drop l.i l.line) ≡ extreme_from le_z l.first (drop l.from l.line)
