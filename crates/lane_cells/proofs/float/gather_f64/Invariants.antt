-- `gather_f64` meets its contract: the line is filled from the front with the cells of the lane.
use Prim.Native.Nat.{◌+◌, ◌*◌}
use lib.Dec.{ltb}
use lib.ListN.{get_or}
use lib.Ieee.{nan}
use Rattle.numbers.proofs.Stored.{Stored}
use Rattle.lane_cells.proofs.float.gather_f64.Given as goal

abbrev pub invariant-loop-i : goal.invariant-loop-i
invariant-loop-i l = Stored nan (λ k. ltb k l.i) (λ k. get_or l.grid (l.base + k * l.stride) nan) l.initial.line l.line
