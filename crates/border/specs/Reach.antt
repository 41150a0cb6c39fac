-- Condition 11 of a lane, as document 01 words it: how long a pad a border fills.
--   bad_along m n pad   of n cells: a pad over n − 1 under Mirror, over n under Reflect and Wrap
--   bad_pad b n pad     the same of every border: none under Constant
use Rattle.std.specs.Prelude.{ℕ, ◌-◌, Bool, false, ltb}
use Rattle.border.specs.Border.{Border, constant, along}
use Rattle.border.specs.declared.CellBorder.{CellBorder}
use Rattle.border.specs.declared.CellBorder.TheVariants.{Nearest, Mirror, Reflect, Wrap}

abbrev pub bad_along : CellBorder → ℕ → ℕ → Bool
bad_along Nearest n pad = false
bad_along Mirror n pad = ltb (n - 1) pad
bad_along Reflect n pad = ltb n pad
bad_along Wrap n pad = ltb n pad

abbrev pub bad_pad : {A : Type 0} → Border A → ℕ → ℕ → Bool
bad_pad (constant c) n pad = false
bad_pad (along m) n pad = bad_along m n pad
