-- `greatest_from` meets its contract, by the laws of Running. The loop's invariant: the greatest of `greatest` and the levels from `i` on is the greatest of
use mathlib.Core.Path.{◌≡◌}
use lib.ListN.{drop}
use Rattle.numbers.specs.Order.{at_least, extreme_from}
use Rattle.statistics_extremes.proofs.extremes.greatest_from.Given as goal

abbrev pub invariant-loop-i : goal.invariant-loop-i
invariant-loop-i l = extreme_from at_least l.greatest (drop l.i l.line) ≡ extreme_from at_least l.first (drop l.from l.line)
