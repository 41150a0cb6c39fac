-- `copy_lanes` meets its contract: each turn fills the rim of the next lane.
use mathlib.Core.Path.{◌≡◌}
use Prim.Native.Nat.{ℕ, ◌+◌, ◌-◌, ◌≤◌, ◌<◌}
use lib.ListN.{length}
use Rattle.border.specs.declared.CellBorder.{CellBorder}
use Rattle.pad_spec.specs.Runs.{Runs, InRim}
use Rattle.pad_copy_axis.specs.Steps.{StepsOf}
use Rattle.pad_copy_axis.proofs.LaneByLane.{LanesStored}
use Rattle.pad_copy_axis.proofs.side.copy_lanes.Given as goal

-- the loop does not know the mode, only its steps
abbrev pub invariant-loop-lane : goal.invariant-loop-lane
invariant-loop-lane l =
    ((m : CellBorder) → Runs m l.p 1 l.blocks l.left l.n (length l.initial.out) → ((k : ℕ) → l.a ≤ k → k < l.a + l.count → InRim l.left l.n l.p k) → StepsOf m l.left l.n l.a l.from l.up l.down → LanesStored m l.p l.left l.n l.a l.count l.initial.out l.out l.lane)
    × (length l.out ≡ length l.initial.out)
