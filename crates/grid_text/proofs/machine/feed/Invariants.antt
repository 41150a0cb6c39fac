-- `feed` meets its contract: the bytes that are left decide.
use mathlib.Core.Path.{◌≡◌}
use lib.ListN.{drop}
use Rattle.grid_text_spec.specs.Machine.{machine, fed}
use Rattle.grid_text.proofs.machine.feed.Given as goal

abbrev pub invariant-loop-byte : goal.invariant-loop-byte
invariant-loop-byte l =
    fed (machine l.initial.s l.initial.lengths l.initial.levels) l.part ≡ fed (machine l.s l.lengths l.levels) (drop l.byte-index l.part)
