-- Worked rows of this crate's definitions, of lanes of 7 cells with 3 own ones from 2 on. Each holds by computing.
--   PadCopyAxisRows   the rows
use Rattle.std.specs.Prelude.{ℕ, ◌≡◌}
use Rattle.border.specs.declared.CellBorder.TheVariants.{Nearest, Mirror, Reflect, Wrap}
use Rattle.pad_copy_axis.specs.Steps.{StepsOf}

pub record PadCopyAxisRows : Type 0 where
  -- before the own cells 2 3 4: coordinates 0 and 1 read 2 2, 4 3, 3 2 and 3 4
  pub nearest_before : StepsOf Nearest 2 3 0 2 0 0
  pub mirror_before : StepsOf Mirror 2 3 0 4 0 1
  pub reflect_before : StepsOf Reflect 2 3 0 3 0 1
  pub wrap_before : StepsOf Wrap 2 3 0 3 1 0
  -- after them: coordinates 5 and 6 read 4 4, 3 2, 4 3 and 2 3
  pub nearest_after : StepsOf Nearest 2 3 5 4 0 0
  pub mirror_after : StepsOf Mirror 2 3 5 3 0 1
  pub reflect_after : StepsOf Reflect 2 3 5 4 0 1
  pub wrap_after : StepsOf Wrap 2 3 5 2 1 0
  -- no other coordinate and no other steps
  pub first_only : (from up down : ℕ) → StepsOf Reflect 2 3 0 from up down → 3 ≡ from
  pub on_only : (from up down : ℕ) → StepsOf Wrap 2 3 5 from up down → 1 ≡ up
  pub back_only : (from up down : ℕ) → StepsOf Mirror 2 3 5 from up down → 1 ≡ down
