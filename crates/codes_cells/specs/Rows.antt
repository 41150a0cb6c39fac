-- Worked rows of borders, pads and kernels as slices. Each holds by computing.
--   CodesCellsRows   the rows
use Rattle.std.specs.Prelude.{◌≡◌, true, false, [], ◌∷◌, pos}
use Rattle.border.specs.declared.BorderMode.TheVariants as Whole
use Rattle.codes.specs.Codes.{kernel_of}
use Rattle.codes_cells.specs.Borders.{modes_of, unknown_borders}
use Rattle.codes_cells.specs.Cells.{pairs_of, kernel_cells}

pub record CodesCellsRows : Type 0 where
  -- each axis has its own code and its own constant, which only constant reads
  pub modes : modes_of (1 ∷ 0 ∷ 4 ∷ []) (pos 7 ∷ pos 5 ∷ pos 6 ∷ [])
      ≡ Whole.Mirror ∷ Whole.Constant (pos 5) ∷ Whole.Wrap ∷ []
  -- a constant past the end of its slice is 0; a code past it names nothing, which stands for nearest
  pub missing : modes_of (3 ∷ 0 ∷ []) (pos 7 ∷ [])
      ≡ Whole.Reflect ∷ Whole.Constant (pos 0) ∷ Whole.Nearest ∷ []
  -- five codes name a border
  pub known : unknown_borders (4 ∷ 0 ∷ 3 ∷ []) (5 ∷ 5 ∷ 5 ∷ []) ≡ false
  -- the code of any axis is judged
  pub unknown_first : unknown_borders (5 ∷ 0 ∷ 3 ∷ []) (5 ∷ 5 ∷ 5 ∷ []) ≡ true
  pub unknown_last : unknown_borders (4 ∷ 0 ∷ 5 ∷ []) (5 ∷ 5 ∷ 5 ∷ []) ≡ true
  -- a missing one is unknown
  pub unknown_missing : unknown_borders (4 ∷ 0 ∷ []) (5 ∷ 5 ∷ 5 ∷ []) ≡ true
  -- one past the axis count is not judged
  pub past_the_axes : unknown_borders (4 ∷ 0 ∷ 9 ∷ []) (5 ∷ 5 ∷ []) ≡ false
  -- pads past the end of a slice are 0
  pub pairs : pairs_of (1 ∷ []) (2 ∷ 3 ∷ [])
      ≡ record { left = 1; right = 2 } ∷ record { left = 0; right = 3 } ∷ record { left = 0; right = 0 } ∷ []
  -- the star: a cross of five in the middle plane, one cell before it and one after
  pub star : kernel_cells (kernel_of 0)
      ≡ false ∷ false ∷ false ∷ false ∷ true ∷ false ∷ false ∷ false ∷ false
      ∷ false ∷ true ∷ false ∷ true ∷ true ∷ true ∷ false ∷ true ∷ false
      ∷ false ∷ false ∷ false ∷ false ∷ true ∷ false ∷ false ∷ false ∷ false ∷ []
