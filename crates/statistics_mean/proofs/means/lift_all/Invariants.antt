-- `lift_all` meets its contract. The loop's invariant: the lifted levels so far, joined, pass the limit exactly where one of them is far; where none of the
-- line is, their sum is kept.
use Rattle.std.proofs.Common.{◌≡◌, false}
use Rattle.numbers.specs.Lists.{any_of}
use Rattle.numbers.proofs.Seen.{Seen}
use Rattle.array_levels.specs.Near.{is_far}
use Rattle.statistics_mean.proofs.Lifting.{Summed}
use Rattle.statistics_mean.proofs.means.lift_all.Given as goal

abbrev pub invariant-loop-z : goal.invariant-loop-z
invariant-loop-z l = Seen is_far 2147483647 l.line l.z-index l.bits × (any_of is_far l.line ≡ false → Summed l.line l.z-index l.sum)
