-- `minimum` meets its contract, by the laws of Running at ≤. The loop's invariant: the least of the four running values and the levels from `i` on is the least of all.
-- The measure is what is left of the line. The answers stand in the order of the code; `search rules` closes the bounds of indexes and sums.
use Prim.Native.Nat.{◌-◌, ◌≤◌}
use mathlib.Core.Path.{◌≡◌}
use lib.IntN.{pos}
use lib.ListN.{length}
use lib.Signed.{le_z}
use Rattle.statistics_extremes.proofs.Running.{Four}
use Rattle.statistics_extremes.proofs.extremes.minimum.Given as goal

abbrev pub invariant-loop-i : goal.invariant-loop-i
invariant-loop-i l = (l.n ≡ length l.line) × (l.i ≤ l.n) × Four le_z (pos 0) l.line l.i l.a l.b l.c l.d

abbrev pub decreases-loop-i : goal.decreases-loop-i
decreases-loop-i l = length l.line - l.i
