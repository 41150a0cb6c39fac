-- `copy_cells` meets its contract: in each block the cell of the one coordinate is copied onto the cell of the other.
use Prim.Native.Nat.{◌-◌, ◌≤◌}
use Rattle.pad_copy_axis.proofs.RunByRun.{BlocksStored}
use Rattle.pad_copy_axis.proofs.coordinate.copy_cells.Given as goal

abbrev pub invariant-loop-block : goal.invariant-loop-block
invariant-loop-block l = BlocksStored l.p 1 l.from l.at l.initial.out l.out l.block
