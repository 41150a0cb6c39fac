-- `copy_runs` meets its contract: in each block the run of the one coordinate is copied onto the run of the other.
use Prim.Native.Nat.{◌-◌, ◌≤◌}
use Rattle.pad_copy_axis.proofs.RunByRun.{BlocksStored}
use Rattle.pad_copy_axis.proofs.coordinate.copy_runs.Given as goal

abbrev pub invariant-loop-block : goal.invariant-loop-block
invariant-loop-block l = BlocksStored l.p l.s l.from l.at l.initial.out l.out l.block
