-- `level_of_rank` meets its contract, by the laws of Bisection. The loop's invariant: the offset of the level at place `k` of the sorted line
-- is between `from` and `to`, and `to` is no further than the greatest level. The measure is how far these are apart. Where it ends early, `first_above` of NextRank.
use Prim.Native.Nat.{◌-◌, ◌≤◌}
use lib.IntN.{nat_abs, ◌-ℤ◌}
use Rattle.statistics_spec.specs.Statistics.{ranked}
use Rattle.statistics.proofs.middle.level_of_rank.Given as goal

abbrev pub invariant-loop-from : goal.invariant-loop-from
invariant-loop-from l = let o = nat_abs (ranked l.levels l.k -ℤ l.low) in (l.from ≤ o) × (o ≤ l.to) × (l.to ≤ nat_abs (l.high -ℤ l.low))

abbrev pub decreases-loop-from : goal.decreases-loop-from
decreases-loop-from l = l.to - l.from
