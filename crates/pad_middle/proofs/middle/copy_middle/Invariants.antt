-- `copy_middle` meets its contract, by the laws of RowWalk and Copied: the rows of the grid are stored one after the other, each at its target.
use Prim.Native.Nat.{◌-◌}
use Rattle.pad_middle.proofs.Copied.{RowsStored}
use Rattle.pad_middle.proofs.RowWalk.{RowWalk}
use Rattle.pad_middle.proofs.middle.copy_middle.Given as goal

abbrev pub invariant-loop-row : goal.invariant-loop-row
invariant-loop-row l =
    RowWalk l.shape l.lefts l.padded l.n l.rows l.row l.start × RowsStored l.shape l.lefts l.padded l.data l.initial.out l.out l.row
