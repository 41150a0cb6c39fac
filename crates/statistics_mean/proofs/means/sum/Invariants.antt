-- `sum` meets its contract. The loop's invariant: `sum` and the sum of the levels that are left are the sum of all, and `sum` is at most
-- as many times the greatest level in size as levels were added, so it fits.
use Rattle.std.proofs.Common.{◌≡◌, ◌*◌, drop, ◌+ℤ◌}
use Rattle.numbers.specs.Sums.{sum_of}
use Rattle.numbers.proofs.Size.{Size}
use Rattle.statistics_mean.proofs.means.sum.Given as goal

abbrev pub invariant-loop-z : goal.invariant-loop-z
invariant-loop-z l = (l.sum +ℤ sum_of (drop l.z-index l.line) ≡ sum_of l.line) × Size l.sum (l.z-index * 2147483647)
