-- Worked rows of this crate's definitions. Each holds by computing.
--   PadMiddleRows    the rows
use Rattle.std.specs.Prelude.{◌≡◌, [], ◌∷◌, pos}
use Rattle.numbers.specs.Rows.{wholes}
use Rattle.pad_middle.specs.Around.{gap_set, around_set}
use Rattle.pad_middle.specs.RowStarts.{RowStarts}
use Rattle.pad_middle.specs.declared.middle.RowStart.{RowStart}

pub record PadMiddleRows : Type 0 where
  -- two rows of 3 with a pad of 1 before each axis, in rows of 5: the first starts at place 6, the second at 11
  pub first_row : RowStarts (2 ∷ 3 ∷ []) (1 ∷ 1 ∷ []) (4 ∷ 5 ∷ []) 0 (record { place = 6; offset = 0 })
  pub second_row : RowStarts (2 ∷ 3 ∷ []) (1 ∷ 1 ∷ []) (4 ∷ 5 ∷ []) 1 (record { place = 11; offset = 0 })
  -- three planes of two rows of 1: row 3 is the second of its plane
  pub third_axis : (t : RowStart) → RowStarts (3 ∷ 2 ∷ 1 ∷ []) (0 ∷ 1 ∷ 0 ∷ []) (3 ∷ 4 ∷ 1 ∷ []) 3 t
      → (t.place ≡ 6) × (t.offset ≡ 1)
  -- a level in the gap from place 1 up to place 3; around the middle 9 of 8 9 8
  pub gap : gap_set (pos 7) 1 3 (wholes (1 ∷ 2 ∷ 3 ∷ 4 ∷ [])) ≡ wholes (1 ∷ 7 ∷ 7 ∷ 4 ∷ [])
  pub gap_none : gap_set (pos 7) 3 1 (wholes (1 ∷ 2 ∷ 3 ∷ 4 ∷ [])) ≡ wholes (1 ∷ 2 ∷ 3 ∷ 4 ∷ [])
  pub around : around_set (pos 7) (1 ∷ []) (1 ∷ []) (3 ∷ []) (wholes (8 ∷ 9 ∷ 8 ∷ [])) ≡ wholes (7 ∷ 9 ∷ 7 ∷ [])
  -- around the middle 3 4 of the rows 1 2 / 3 4 / 5 6
  pub around-rows : around_set (pos 7) (1 ∷ 2 ∷ []) (1 ∷ 0 ∷ []) (3 ∷ 2 ∷ []) (wholes (1 ∷ 2 ∷ 3 ∷ 4 ∷ 5 ∷ 6 ∷ []))
      ≡ wholes (7 ∷ 7 ∷ 3 ∷ 4 ∷ 7 ∷ 7 ∷ [])
