-- `fill_level` meets its contract: each turn stores the level at the next place of a rim; the lane's own cells are never changed.
use mathlib.Core.Path.{◌≡◌}
use mathlib.Core.Bool.{true}
use Prim.Native.Nat.{◌+◌, ◌-◌, ◌≤◌}
use lib.IntN.{pos}
use lib.ListN.{length}
use Rattle.lanes.specs.Lanes.{lane_inside}
use Rattle.border.specs.Border.{constant}
use Rattle.pad_spec.proofs.Rims.{Filled}
use Rattle.pad_statistic_axis.proofs.rims.fill_level.Given as goal

abbrev pub invariant-loop-k : goal.invariant-loop-k
invariant-loop-k l = Filled (pos 0) (constant l.c) l.p l.s l.l l.left l.n l.initial.out l.out l.k

abbrev pub invariant-loop-j : goal.invariant-loop-j
invariant-loop-j l = (lane_inside l.p l.s l.l (length l.initial.out) ≡ true) × Filled (pos 0) (constant l.c) l.p l.s l.l l.left l.n l.initial.out l.out l.j
