-- `fill_axis` meets its contract: lane by lane, more places hold their levels.
use mathlib.Core.Path.{◌≡◌}
use Prim.Native.Nat.{◌-◌}
use lib.ListN.{length}
use Rattle.pad_statistic_axis.proofs.Lanes.{OnAxis, CellBorder}
use Rattle.pad_statistic_axis.proofs.axis.fill_axis.Given as goal

abbrev pub invariant-loop-lane : goal.invariant-loop-lane
invariant-loop-lane l =
    OnAxis l.padded l.axis l.p l.s l.count × CellBorder l.statistic l.shape l.lefts l.padded l.axis l.initial.out l.lane l.out × (length l.line ≡ length l.initial.line)
