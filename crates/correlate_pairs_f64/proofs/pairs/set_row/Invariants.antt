-- `set_row` meets its contract: the row is filled from the front with terms.
use lib.Ieee.{nan}
use Rattle.direction.specs.Direction.{directed}
use Rattle.correlate_spec.specs.Weighed.{float_ops, cell_term}
use Rattle.correlate_spec.proofs.Along.{Pass}
use Rattle.correlate_pairs_f64.proofs.pairs.set_row.Given as goal

abbrev pub invariant-loop-i : goal.invariant-loop-i
invariant-loop-i l = Pass nan (λ k. cell_term float_ops (directed l.backward l.weights) l.line k 0) l.initial.out l.n l.i l.out
