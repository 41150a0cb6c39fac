-- `lower_row` meets its contract. The loop's invariant: `sum` is the sum of the cells that the windows before and at `i` share, and the
-- starts before `i` are stored. Assumes nothing.
use mathlib.Core.Path.{◌≡◌}
use lib.IntN.{pos}
use Rattle.correlate_spec.specs.WindowSum.{window_sum}
use Rattle.correlate_spec.proofs.Along.{Pass}
use Rattle.correlate_raised.specs.Raised.{raised_start}
use Rattle.correlate_raised.proofs.raised_start.lower_row.Given as goal

abbrev pub invariant-loop-i : goal.invariant-loop-i
invariant-loop-i l =
    (l.sum ≡ window_sum l.line l.before l.i) × Pass (pos 0) (raised_start l.by l.weights l.line) l.initial.out l.n l.i l.out
