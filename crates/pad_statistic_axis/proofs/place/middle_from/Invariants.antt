-- `middle_from` meets its contract: every axis before the one that the loop has reached is in the middle.
use mathlib.Core.Path.{◌≡◌}
use Prim.Native.Nat.{◌-◌, ◌≤◌}
use lib.ListN.{length}
use Rattle.array_spec.specs.Grid.{coordinate}
use Rattle.pad_spec.specs.Pads.{in_middle, all_from, middle_from}
use Rattle.pad_statistic_axis.proofs.place.middle_from.Given as goal

abbrev pub invariant-loop-a : goal.invariant-loop-a
invariant-loop-a l = middle_from l.shape l.lefts l.from (coordinate l.padded l.place)
    ≡ all_from (in_middle l.shape l.lefts (coordinate l.padded l.place)) l.a (length l.shape - l.a)
