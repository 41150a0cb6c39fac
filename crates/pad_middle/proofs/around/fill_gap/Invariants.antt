-- `fill_gap` meets its contract: the places of the gap are stored one after the other.
use Prim.Native.Nat.{◌-◌, ◌≤◌, ◌<◌}
use Rattle.pad_middle.proofs.Gaps.{GapStored}
use Rattle.pad_middle.proofs.around.fill_gap.Given as goal

abbrev pub invariant-loop-k : goal.invariant-loop-k
invariant-loop-k l = (l.from < l.k → l.k ≤ l.to) × GapStored l.level l.from l.initial.out l.out l.k
