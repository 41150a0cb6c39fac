-- `above_epsilon` meets its contract: two comparisons decide the one of the absolute value. The code's f64::EPSILON is 2^−52
-- by its bits.
use mathlib.Core.Path.{sym, ◌∙◌}
use lib.Ieee.{of_bits}
use Rattle.symmetry_spec.proofs.Epsilon.{exceeds_above, exceeds_else}
use Rattle.symmetry.proofs.above_epsilon.Goals as goal

pub returns-then-x : goal.returns-then-x
unfolding of_bits
returns-then-x c = c.if-x.true ∙ sym (exceeds_above c.args.x c.if-x.true)

pub returns-else-x : goal.returns-else-x
unfolding of_bits
returns-else-x c = sym (exceeds_else c.args.x c.if-x.false)
