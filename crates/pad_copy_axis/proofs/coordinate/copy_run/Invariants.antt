-- `copy_run` meets its contract: the cells of the run are stored one after the other, none of which is read later.
use Prim.Native.Nat.{◌-◌, ◌≤◌}
use Rattle.pad_spec.proofs.OneRow.{RowStored}
use Rattle.pad_copy_axis.proofs.coordinate.copy_run.Given as goal

abbrev pub invariant-loop-j : goal.invariant-loop-j
invariant-loop-j l = RowStored l.initial.out l.from l.at l.initial.out l.out l.j
