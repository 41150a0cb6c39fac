-- `spell` meets its contract: the digits yet to be written and what stands in `out` after them are the answer.
use mathlib.Core.List.{◌++◌}
use mathlib.Core.Path.{◌≡◌}
use lib.ListN.{length, drop}
use Rattle.text_spec.specs.Writing.{digits_of}
use Rattle.text.proofs.write.spell.Given as goal

abbrev pub invariant-loop-i : goal.invariant-loop-i
invariant-loop-i l = (length l.out ≡ length l.initial.out) × (digits_of l.base l.i l.rest ++ drop l.i l.out ≡ digits_of l.base l.k l.n ++ drop l.k l.initial.out)
