-- Worked rows of this crate's definitions. Each holds by computing.
--   on_lane s           the means of windows of three cells of the lane s under Nearest
--   UniformAxisRows    the rows
use Rattle.std.specs.Prelude.{◌≡◌, List, [], ◌∷◌, ℤ, pos}
use Rattle.numbers.specs.Rows.{wholes}
use Rattle.border.specs.Border.{along}
use Rattle.border.specs.declared.CellBorder.TheVariants.{Nearest}
use Rattle.lanes.specs.Lanes.{along_axis}
use Rattle.pad_line.specs.Lane.{filtered_lane}
use Rattle.uniform_axis.specs.MeanAxisNeeds.{means_by}

abbrev pub on_lane : List ℤ → List ℤ
on_lane = filtered_lane (pos 0) (means_by 3) (along Nearest) 1 1

pub record UniformAxisRows : Type 0 where
  -- 4 2 7 1 in windows of three, cut toward zero
  pub mean : on_lane (wholes (4 ∷ 2 ∷ 7 ∷ 1 ∷ [])) ≡ wholes (3 ∷ 4 ∷ 3 ∷ 3 ∷ [])
  -- the rows 1 2 3 / 4 5 9 along axis 0: each column is a lane
  pub down : along_axis (pos 0) on_lane (2 ∷ 3 ∷ []) 0 (wholes (1 ∷ 2 ∷ 3 ∷ 4 ∷ 5 ∷ 9 ∷ []))
      ≡ wholes (2 ∷ 3 ∷ 5 ∷ 3 ∷ 4 ∷ 7 ∷ [])
