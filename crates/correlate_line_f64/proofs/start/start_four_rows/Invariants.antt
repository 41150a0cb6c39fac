-- `start_four_rows` meets its contract: the row is filled from the front with sums of four terms.
use lib.Ieee.{nan}
use Rattle.direction.specs.Direction.{directed}
use Rattle.correlate_spec.specs.Weighed.{float_ops, plain_to}
use Rattle.correlate_spec.proofs.Along.{Pass}
use Rattle.correlate_line_f64.proofs.start.start_four_rows.Given as goal

abbrev pub invariant-loop-i : goal.invariant-loop-i
invariant-loop-i l = Pass nan (plain_to float_ops (directed l.backward l.weights) l.line 4) l.initial.out l.n l.i l.out
