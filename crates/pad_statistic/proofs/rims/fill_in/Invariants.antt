-- `fill_in` meets its contract: what one axis leaves is where the next starts.
use mathlib.Core.Path.{◌≡◌}
use Prim.Native.Nat.{◌-◌, ◌≤◌}
use lib.ListN.{length}
use Rattle.array_spec.specs.Grid.{cell_count}
use Rattle.pad_spec.specs.Fill.{mode_taking}
use Rattle.pad_spec.specs.Filled.{Fills}
use Rattle.pad_statistic.proofs.rims.fill_in.Given as goal

abbrev pub invariant-loop-axis : goal.invariant-loop-axis
invariant-loop-axis l =
    Fills (mode_taking l.statistic) l.shape l.lefts l.padded 0 l.axis l.initial.out l.out × (length l.line ≡ 1152) × (length l.out ≡ cell_count l.padded)
