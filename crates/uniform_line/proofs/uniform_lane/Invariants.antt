-- `uniform_lane` meets its contract. The loop's invariant: `sum` is the sum of the cells that the windows before and at `i` share, and the means
-- before `i` are written to the lane.
use mathlib.Core.Path.{◌≡◌}
use lib.IntN.{pos}
use Rattle.lanes.proofs.Stores.{Written}
use Rattle.correlate_spec.specs.WindowSum.{window_sum}
use Rattle.uniform_spec.specs.Mean.{means}
use Rattle.uniform_line.proofs.uniform_lane.Given as goal

abbrev pub invariant-loop-i : goal.invariant-loop-i
invariant-loop-i l = (l.sum ≡ window_sum l.line l.before l.i) × Written (pos 0) (means l.line l.size l.n) l.stride l.lane l.initial.out l.out l.i
