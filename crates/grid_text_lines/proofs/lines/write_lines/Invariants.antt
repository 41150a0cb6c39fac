-- `write_lines` meets its contract: the lines of the levels before the one that is read stand at the front.
use Prim.Native.Nat.{◌*◌, ◌≤◌}
use mathlib.Core.Path.{◌≡◌}
use mathlib.Core.List.{◌++◌}
use lib.ListN.{length, take, drop}
use Rattle.grid_text_spec.specs.Lines.{level_lines}
use Rattle.grid_text_lines.proofs.lines.write_lines.Given as goal

abbrev pub invariant-loop-z : goal.invariant-loop-z
invariant-loop-z l =
    (l.at ≤ 21 * l.z-index) × (l.at ≡ length (level_lines (take l.z-index l.levels)))
    × (l.out ≡ level_lines (take l.z-index l.levels) ++ drop l.at l.initial.out)
