-- `add_row` meets its contract: along the row, each cell gets the term of one weight; term and sum fit.
use lib.IntN.{pos}
use Rattle.correlate_spec.specs.Weighed.{whole_ops, cell_term}
use Rattle.direction.specs.Direction.{directed}
use Rattle.correlate_plain.specs.Added.{plus}
use Rattle.correlate_spec.proofs.Along.{Pass}
use Rattle.correlate_plain.proofs.plain.add_row.Given as goal

abbrev pub invariant-loop-i : goal.invariant-loop-i
invariant-loop-i l = Pass (pos 0) (plus l.initial.out (λ k. cell_term whole_ops (directed l.backward l.weights) l.line k l.j)) l.initial.out l.n l.i l.out
