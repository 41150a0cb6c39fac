-- Worked rows of this crate's definitions. Each holds by computing.
--   down which left n    lane 1 of axis 0 of the 4 by 2 grid 1 2 / 3 4 / 5 6 / 7 8, its n cells from place left on
--                        extended to both ends
--   RimRows          the rows
use Rattle.std.specs.Prelude.{ℕ, ◌^◌, ◌≡◌, true, false, List, [], ◌∷◌, map, ℤ, pos}
use Rattle.std.specs.Int.Signed.{lt_z}
use Rattle.numbers.specs.Rows.{wholes, minus}
use Rattle.border.specs.Border.{constant}
use Rattle.border.specs.Modes.{border_of, pad_mode_of}
use Rattle.border.specs.declared.CellBorder.{CellBorder}
use Rattle.border.specs.declared.BorderMode.{BorderMode}
use Rattle.border.specs.declared.PadMode.TheVariants.{Constant, Edge, Maximum, Mean, Median, Minimum}
use Rattle.pad_spec.specs.Fill.{filler_of, rim_of, carries, mode_along, mode_taking, statistic_of, filled_lane}
use Rattle.pad_spec.specs.declared.rim.Filler.TheVariants as Filler
use Rattle.pad_spec.specs.declared.rim.Statistic.{Statistic}

abbrev pub down : Statistic → ℕ → ℕ → List ℤ
down which left n = filled_lane which 4 2 1 left n (wholes (1 ∷ 2 ∷ 3 ∷ 4 ∷ 5 ∷ 6 ∷ 7 ∷ 8 ∷ []))

pub record RimRows : Type 0 where
  -- a border extends a lane as the padding mode that it maps to
  pub border_modes : (m : BorderMode) (s : List ℤ) → rim_of (pad_mode_of m) s ≡ border_of m
  -- T10
  pub median : rim_of Median (wholes (1 ∷ 2 ∷ 4 ∷ 9 ∷ [])) ≡ constant (pos 3)
  pub median_below : rim_of Median (minus 1 ∷ minus 2 ∷ []) ≡ constant (minus 1)
  pub mean_below : rim_of Mean (minus 1 ∷ minus 2 ∷ []) ≡ constant (minus 1)
  pub maximum : rim_of Maximum (wholes (2 ∷ 4 ∷ 1 ∷ [])) ≡ constant (pos 4)
  pub minimum : rim_of Minimum (wholes (2 ∷ 4 ∷ 1 ∷ [])) ≡ constant (pos 1)
  -- the mode of a filler
  pub along_mode : (m : CellBorder) → filler_of (mode_along m) ≡ Filler.Cells m
  pub taking_mode : (which : Statistic) → filler_of (mode_taking which) ≡ Filler.Statistic which
  -- a level over 5 is carried, one of 5 is not; the other modes carry none
  pub carried : map (λ m. carries (lt_z (pos 5)) (filler_of m)) (Constant (pos 7) ∷ Constant (pos 5) ∷ Edge ∷ Mean ∷ [])
      ≡ true ∷ false ∷ false ∷ false ∷ []
  -- a level that mean and median do not serve
  pub mean_far : statistic_of Statistic.Mean (pos (2 ^ 31) ∷ []) ≡ pos 0
  pub median_far : statistic_of Statistic.Median (pos (2 ^ 31) ∷ []) ≡ pos 0
  pub maximum_far : statistic_of Statistic.Maximum (pos (2 ^ 31) ∷ []) ≡ pos (2 ^ 31)
  pub minimum_far : statistic_of Statistic.Minimum (pos (2 ^ 31) ∷ []) ≡ pos (2 ^ 31)
  -- the lane 2 4 6 8: its middle 4 6 extended by one cell on each side; its first two and three cells
  pub down_mean : down Statistic.Mean 1 2 ≡ wholes (1 ∷ 5 ∷ 3 ∷ 4 ∷ 5 ∷ 6 ∷ 7 ∷ 5 ∷ [])
  pub down_maximum : down Statistic.Maximum 1 2 ≡ wholes (1 ∷ 6 ∷ 3 ∷ 4 ∷ 5 ∷ 6 ∷ 7 ∷ 6 ∷ [])
  pub down_minimum : down Statistic.Minimum 0 2 ≡ wholes (1 ∷ 2 ∷ 3 ∷ 4 ∷ 5 ∷ 2 ∷ 7 ∷ 2 ∷ [])
  pub down_median : down Statistic.Median 0 3 ≡ wholes (1 ∷ 2 ∷ 3 ∷ 4 ∷ 5 ∷ 6 ∷ 7 ∷ 4 ∷ [])
  -- own cells that pass the lane's end, and none: nothing changes
  pub down-past : down Statistic.Maximum 3 2 ≡ wholes (1 ∷ 2 ∷ 3 ∷ 4 ∷ 5 ∷ 6 ∷ 7 ∷ 8 ∷ [])
  pub down-none : down Statistic.Maximum 1 0 ≡ wholes (1 ∷ 2 ∷ 3 ∷ 4 ∷ 5 ∷ 6 ∷ 7 ∷ 8 ∷ [])
