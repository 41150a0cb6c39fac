-- `copy_rim` meets its contract: coordinate by coordinate, what is read is in the middle of the axis.
use Prim.Native.Nat.{◌-◌, ◌≤◌}
use Rattle.pad_copy_axis.proofs.CopiedRims.{RimStored}
use Rattle.pad_copy_axis.proofs.rims.copy_rim.Given as goal

abbrev pub invariant-loop-j : goal.invariant-loop-j
invariant-loop-j l = RimStored l.mode l.p l.s l.left l.n l.a l.initial.out l.out l.j
