-- `sum_of` meets its contract. The loop's invariant: `sum` is the sum of the first `z-index` cells.
use mathlib.Core.Path.{◌≡◌}
use Rattle.correlate_spec.specs.WindowSum.{window_sum}
use Rattle.correlate_plain.proofs.sums.sum_of.Given as goal

abbrev pub invariant-loop-z : goal.invariant-loop-z
invariant-loop-z l = l.sum ≡ window_sum l.cells l.z-index 0
