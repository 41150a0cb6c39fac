-- `set_line` meets its contract: from a row that is begun, each turn adds the term of one weight to the whole row.
use mathlib.Core.Path.{◌≡◌}
use lib.ListN.{length}
use Rattle.direction.specs.Direction.{directed}
use Rattle.correlate_spec.specs.Weighed.{whole_ops, plain_to}
use Rattle.correlate_spec.proofs.Along.{Row}
use Rattle.correlate_plain.proofs.set.set_line.Given as goal

abbrev pub invariant-loop-k : goal.invariant-loop-k
invariant-loop-k l = (l.count ≡ length l.weights) × Row (plain_to whole_ops (directed l.backward l.weights) l.line l.k) (length l.initial.out) l.out
