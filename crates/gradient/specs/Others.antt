-- The axes that a gradient is smoothed along: those beside the axis of the difference.
--   first_other axis   the first axis that is not the axis of the difference
--   last_other axis    the last one of three axes
use Rattle.std.specs.Prelude.{ℕ, cond, eqb}

abbrev pub first_other : ℕ → ℕ
first_other axis = cond (eqb axis 0) 1 0

abbrev pub last_other : ℕ → ℕ
last_other axis = cond (eqb axis 2) 1 2
