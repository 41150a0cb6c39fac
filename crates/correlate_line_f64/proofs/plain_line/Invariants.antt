-- `plain_line` meets its contract: the row is begun, the passes by fours go on from there, and each turn adds the term of one weight that they left.
use mathlib.Core.Path.{◌≡◌}
use lib.ListN.{length}
use Rattle.direction.specs.Direction.{directed}
use Rattle.correlate_spec.specs.Weighed.{float_ops, plain_to}
use Rattle.correlate_spec.proofs.Along.{Row}
use Rattle.correlate_line_f64.proofs.plain_line.Given as goal

abbrev pub invariant-loop-k : goal.invariant-loop-k
invariant-loop-k l = (l.count ≡ length l.weights) × Row (plain_to float_ops (directed l.backward l.weights) l.line l.k) (length l.initial.out) l.out
