-- What filling both rims of a lane by steps supposes.
--   RimNeeds m up down left n right len   the n cells from place left on of a line of len places have room for both
--                                         rims, the border m fills them, and up and down are its steps
use Rattle.std.specs.Prelude.{ℕ, ◌+◌, ◌≤◌, ◌<◌, ◌≡◌, false}
use Rattle.border.specs.declared.CellBorder.{CellBorder}
use Rattle.pad_line.specs.Steps.{step_up, step_down}
use Rattle.border.specs.Reach.{bad_along}

pub record RimNeeds (m : CellBorder) (up down left n right len : ℕ) : Type 0 where
  pub some : 0 < n
  pub room : left + n + right ≤ len
  pub fills_left : bad_along m n left ≡ false
  pub fills_right : bad_along m n right ≡ false
  pub on : up ≡ step_up m
  pub back : down ≡ step_down m
