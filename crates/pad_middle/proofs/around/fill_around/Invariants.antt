-- `fill_around` meets its contract, by the laws of RowWalk and Gaps: each turn fills the gap before the next row of the grid, and the last one is what stands after all
-- rows. Assumes nothing.
use Prim.Native.Nat.{◌-◌}
use Rattle.pad_middle.proofs.RowWalk.{RowWalk}
use Rattle.pad_middle.proofs.Gaps.{AroundTo}
use Rattle.pad_middle.proofs.around.fill_around.Given as goal

abbrev pub invariant-loop-row : goal.invariant-loop-row
invariant-loop-row l =
    RowWalk l.shape l.lefts l.padded l.n l.rows l.row l.start × AroundTo l.level l.shape l.lefts l.padded l.row l.done l.initial.out l.out
