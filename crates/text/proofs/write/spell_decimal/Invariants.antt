-- `spell_decimal` meets its contract, as `spell` does, two digits a turn and then the one that may be left. The measure is the digits that are left.
use Prim.Native.Nat.{◌≤◌}
use mathlib.Core.List.{◌++◌}
use mathlib.Core.Path.{◌≡◌}
use lib.ListN.{length, drop}
use Rattle.text_spec.specs.Writing.{digits_of}
use Rattle.text.proofs.write.spell_decimal.Given as goal

abbrev pub invariant-loop-i : goal.invariant-loop-i
invariant-loop-i l =
    (l.i ≤ l.k) × (length l.out ≡ length l.initial.out) × (digits_of 10 l.i l.rest ++ drop l.i l.out ≡ digits_of 10 l.k l.n ++ drop l.k l.initial.out)

abbrev pub decreases-loop-i : goal.decreases-loop-i
decreases-loop-i l = l.i
