-- What a coordinate of a rim reads, and by which steps its rim goes on.
--   StepsOf m left n a from up down        from is the coordinate that coordinate a of a rim reads, up and down are the
--                                          steps of its border
use Rattle.std.specs.Prelude.{ℕ, ◌≡◌}
use Rattle.border.specs.declared.CellBorder.{CellBorder}
use Rattle.pad_line.specs.Steps.{step_up, step_down}
use Rattle.pad_spec.specs.Runs.{read_from}

pub record StepsOf (m : CellBorder) (left n a from up down : ℕ) : Type 0 where
  pub first : from ≡ read_from m left n a
  pub on : up ≡ step_up m
  pub back : down ≡ step_down m
