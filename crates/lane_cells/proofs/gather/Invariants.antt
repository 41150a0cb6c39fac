-- `gather` meets its contract: the line is filled from the front with the cells of the lane.
use Prim.Native.Nat.{◌+◌, ◌*◌}
use lib.Dec.{ltb}
use lib.ListN.{get_or}
use lib.IntN.{pos}
use Rattle.numbers.proofs.Stored.{Stored}
use Rattle.lane_cells.proofs.gather.Given as goal

abbrev pub invariant-loop-i : goal.invariant-loop-i
invariant-loop-i l = Stored (pos 0) (λ k. ltb k l.i) (λ k. get_or l.grid (l.base + k * l.stride) (pos 0)) l.initial.line l.line
