-- Worked rows of this crate's definitions. Each holds by computing.
--   by_rows m               T8 taken row by row: the sums of the first m kernel rows
--   CorrelateGridRowRows   the rows
use Rattle.std.specs.Prelude.{ℕ, ◌/◌, ◌%◌, ◌≡◌, true, false, List, [], ◌∷◌, ℤ}
use Rattle.numbers.specs.Lists.{tabulate}
use Rattle.numbers.specs.Rows.{wholes}
use Rattle.border.specs.Border.{along}
use Rattle.border.specs.declared.CellBorder.TheVariants.{Nearest}
use Rattle.correlate_grid_axes.specs.Axes.{axis_from}
use Rattle.correlate_grid_row.specs.ByRows.{row_start, rows_to}

abbrev pub by_rows : ℕ → List ℤ
by_rows m =
    let x = axis_from (2 ∷ 2 ∷ []) 2 2 1 0 in
    let y = axis_from (2 ∷ 2 ∷ []) 1 2 1 0 in
    let z = axis_from (2 ∷ 2 ∷ []) 0 2 1 0 in
    tabulate (λ k. rows_to (along Nearest) x y z (wholes (1 ∷ 0 ∷ 0 ∷ 10 ∷ [])) (wholes (1 ∷ 2 ∷ 3 ∷ 4 ∷ [])) (k / 2) m
    (k % 2)) 0 4

pub record CorrelateGridRowRows : Type 0 where
  -- the second of four rows of three weights, from the front and from the end; and the last, from the end
  pub starts : row_start false 12 3 3 ∷ row_start true 12 3 3 ∷ row_start true 12 9 3 ∷ [] ≡ 3 ∷ 6 ∷ 0 ∷ []
  -- T8 row by row, on three axes: after the first kernel row, and after both
  pub by_rows_lem : by_rows 1 ∷ by_rows 2 ∷ [] ≡ wholes (1 ∷ 1 ∷ 1 ∷ 1 ∷ []) ∷ wholes (11 ∷ 21 ∷ 31 ∷ 41 ∷ []) ∷ []
