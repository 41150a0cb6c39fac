-- Worked rows of this crate's definitions. Each holds by computing.
--   FrameRows       the rows
use Rattle.std.specs.Prelude.{◌≡◌, [], ◌∷◌, map}
use Rattle.numbers.specs.Rows.{wholes}
use Rattle.border.specs.declared.CellBorder.TheVariants.{Nearest, Mirror, Reflect, Wrap}
use Rattle.pad_spec.specs.Frame.{target_of, row_length, row_set_lem, middle_set}
use Rattle.pad_spec.specs.Runs.{read_from, coordinate_set, rim_set, axis_set}

pub record FrameRows : Type 0 where
  -- the rows 1 2 3 / 4 5 6 in a grid of 4 by 5, one row and two columns from its start
  pub row : row_length (2 ∷ 3 ∷ []) ≡ 3
  pub targets : map (target_of (2 ∷ 3 ∷ []) (1 ∷ 2 ∷ []) (4 ∷ 5 ∷ [])) (0 ∷ 1 ∷ 2 ∷ 3 ∷ 4 ∷ 5 ∷ [])
      ≡ 7 ∷ 8 ∷ 9 ∷ 12 ∷ 13 ∷ 14 ∷ []
  pub row_set : row_set_lem (wholes (1 ∷ 2 ∷ 3 ∷ 4 ∷ [])) 1 2 3 (wholes (9 ∷ 9 ∷ 9 ∷ 9 ∷ 9 ∷ 9 ∷ []))
      ≡ wholes (9 ∷ 9 ∷ 9 ∷ 2 ∷ 3 ∷ 9 ∷ [])
  pub middle : middle_set (2 ∷ 1 ∷ []) (1 ∷ 0 ∷ []) (3 ∷ 2 ∷ []) (wholes (1 ∷ 2 ∷ []))
      (wholes (9 ∷ 8 ∷ 7 ∷ 6 ∷ 5 ∷ 4 ∷ [])) ≡ wholes (9 ∷ 8 ∷ 1 ∷ 6 ∷ 2 ∷ 4 ∷ [])
  -- lanes of 7 cells with 3 of their own from place 2 on: what the coordinates 0 and 6 read
  pub reads_before : map (λ m. read_from m 2 3 0) (Nearest ∷ Mirror ∷ Reflect ∷ Wrap ∷ []) ≡ 2 ∷ 4 ∷ 3 ∷ 3 ∷ []
  pub reads_after : map (λ m. read_from m 2 3 6) (Nearest ∷ Mirror ∷ Reflect ∷ Wrap ∷ []) ≡ 4 ∷ 2 ∷ 3 ∷ 3 ∷ []
  -- two blocks of two runs of two cells: the run of coordinate 1 onto the run of coordinate 0; then lanes of 4 cells, 2
  -- of their own, both rims under Wrap
  pub coordinate-set : coordinate_set 2 2 1 0 (wholes (1 ∷ 2 ∷ 3 ∷ 4 ∷ 5 ∷ 6 ∷ 7 ∷ 8 ∷ []))
      ≡ wholes (3 ∷ 4 ∷ 3 ∷ 4 ∷ 7 ∷ 8 ∷ 7 ∷ 8 ∷ [])
  pub rim_before : rim_set Wrap 4 2 1 2 0 1 (wholes (9 ∷ 9 ∷ 1 ∷ 2 ∷ 3 ∷ 4 ∷ 9 ∷ 9 ∷ []))
      ≡ wholes (3 ∷ 4 ∷ 1 ∷ 2 ∷ 3 ∷ 4 ∷ 9 ∷ 9 ∷ [])
  pub rim_after : rim_set Wrap 4 2 1 2 3 1 (wholes (9 ∷ 9 ∷ 1 ∷ 2 ∷ 3 ∷ 4 ∷ 9 ∷ 9 ∷ []))
      ≡ wholes (9 ∷ 9 ∷ 1 ∷ 2 ∷ 3 ∷ 4 ∷ 1 ∷ 2 ∷ [])
  pub both_rims : axis_set Wrap 4 2 1 2 (wholes (9 ∷ 9 ∷ 1 ∷ 2 ∷ 3 ∷ 4 ∷ 9 ∷ 9 ∷ []))
      ≡ wholes (3 ∷ 4 ∷ 1 ∷ 2 ∷ 3 ∷ 4 ∷ 1 ∷ 2 ∷ [])
