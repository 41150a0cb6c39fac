-- `add_four_raised_rows` meets its contract: along the row, each cell gets its next four raised terms; terms and sum fit.
use Prim.Native.Nat.{◌+◌}
use lib.IntN.{pos}
use Rattle.correlate_spec.proofs.Along.{Pass}
use Rattle.direction.specs.Direction.{directed}
use Rattle.correlate_raised.specs.Raised.{raised_to}
use Rattle.correlate_raised_terms.specs.Products.{lowered}
use Rattle.correlate_raised.proofs.raised.add_four_raised_rows.Given as goal

abbrev pub invariant-loop-i : goal.invariant-loop-i
invariant-loop-i l = Pass (pos 0) (raised_to l.by (directed l.backward l.weights) (lowered l.line) (l.j + 4)) l.initial.out l.n l.i l.out
