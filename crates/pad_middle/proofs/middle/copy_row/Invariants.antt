-- `copy_row` meets its contract: the cells of the row are stored one after the other, and no other place changes.
use Prim.Native.Nat.{◌-◌, ◌≤◌}
use Rattle.pad_spec.proofs.OneRow.{RowStored}
use Rattle.pad_middle.proofs.middle.copy_row.Given as goal

abbrev pub invariant-loop-j : goal.invariant-loop-j
invariant-loop-j l = RowStored l.data l.from l.at l.initial.out l.out l.j
