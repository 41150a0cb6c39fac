-- Worked rows of this crate's definitions. Each holds by computing.
--   two                 the rows 1 2 3 / 4 5 6
--   coordinates ns k    the coordinates of place k on each axis
--   ArraySpecRows           the rows
use Rattle.std.specs.Prelude.{ℕ, ◌-◌, ◌^◌, ◌≡◌, true, false, List, [], ◌∷◌, map, ℤ, pos, negsuc, length, get_or, replicate}
use Rattle.std.specs.Float.{nan, inf, fin}
use Rattle.numbers.specs.Lists.{tabulate}
use Rattle.numbers.specs.Refusal.{refusal_of}
use Rattle.numbers.specs.Rows.{minus, wholes}
use Rattle.array_spec.specs.Assign.{copied}
use Rattle.array_spec.specs.Conditions.{bad_shape, grid_count, bad_length, bad_level, bad_float, bad_axis, grid_judged_by, grid_judged}
use Rattle.array_spec.specs.Grid.{cell_count, length_of, stride_of, place_of, coordinate, moved, level_at}

abbrev pub two : List ℤ
two = wholes (1 ∷ 2 ∷ 3 ∷ 4 ∷ 5 ∷ 6 ∷ [])

abbrev pub coordinates : List ℕ → ℕ → List ℕ
coordinates ns k = tabulate (coordinate ns k) 0 (length ns)

pub record ArraySpecRows : Type 0 where
  -- 2 by 3: cells, lengths, strides, places; a missing axis has length 1
  pub count : cell_count (2 ∷ 3 ∷ []) ≡ 6
  pub lengths : map (length_of (2 ∷ 3 ∷ [])) (0 ∷ 1 ∷ 2 ∷ []) ≡ 2 ∷ 3 ∷ 1 ∷ []
  pub strides : map (stride_of (4 ∷ 2 ∷ 3 ∷ [])) (0 ∷ 1 ∷ 2 ∷ 3 ∷ []) ≡ 6 ∷ 3 ∷ 1 ∷ 1 ∷ []
  pub place : place_of (2 ∷ 3 ∷ []) (λ a. get_or (1 ∷ 2 ∷ []) a 0) ≡ 5
  pub places : map (coordinates (2 ∷ 3 ∷ [])) (0 ∷ 2 ∷ 4 ∷ []) ≡ (0 ∷ 0 ∷ []) ∷ (0 ∷ 2 ∷ []) ∷ (1 ∷ 1 ∷ []) ∷ []
  pub level : level_at (pos 0) (2 ∷ 3 ∷ []) two (moved 1 2 (λ a. 1)) ≡ pos 6
  -- 1: no axis; four axes; a hundred; 0 and 1,025 cells on an axis; 2^64 − 1; two axes of 2^32, whose product would
  -- wrap; over 8,192 cells
  pub refused_shapes : map bad_shape
      ([] ∷ (1 ∷ 1 ∷ 1 ∷ 1 ∷ []) ∷ replicate 100 1 ∷ (0 ∷ []) ∷ (1025 ∷ []) ∷ ((2 ^ 64 - 1) ∷ [])
      ∷ ((2 ^ 32) ∷ (2 ^ 32) ∷ []) ∷ (128 ∷ 65 ∷ []) ∷ (1 ∷ 1 ∷ 0 ∷ []) ∷ [])
      ≡ true ∷ true ∷ true ∷ true ∷ true ∷ true ∷ true ∷ true ∷ true ∷ []
  pub accepted_shapes : map bad_shape ((1 ∷ []) ∷ (1024 ∷ []) ∷ (128 ∷ 64 ∷ []) ∷ (8 ∷ 1 ∷ 1024 ∷ []) ∷ (1 ∷ 1 ∷ 1 ∷ [])
      ∷ []) ≡ false ∷ false ∷ false ∷ false ∷ false ∷ []
  pub counts : map grid_count ((2 ∷ 3 ∷ []) ∷ (1025 ∷ []) ∷ (128 ∷ 64 ∷ []) ∷ []) ≡ 6 ∷ 0 ∷ 8192 ∷ []
  -- 2
  pub wrong_lengths : map (bad_length (2 ∷ 3 ∷ [])) (0 ∷ 5 ∷ 6 ∷ 7 ∷ []) ≡ true ∷ true ∷ false ∷ true ∷ []
  -- 3: −2^31, −(2^31 − 1), 0, 2^31 − 1, 2^31, −2^63
  pub levels : map bad_level (minus (2 ^ 31) ∷ minus (2 ^ 31 - 1) ∷ pos 0 ∷ pos (2 ^ 31 - 1) ∷ pos (2 ^ 31)
      ∷ minus (2 ^ 63) ∷ []) ≡ true ∷ false ∷ false ∷ false ∷ true ∷ true ∷ []
  -- 3: a NaN, both infinities, −0.0, the least subnormal number, 1
  pub floats : map bad_float (nan ∷ inf false ∷ inf true ∷ fin true 0 (pos 0) ∷ fin false 1 (negsuc 1073)
      ∷ fin false 1 (pos 0) ∷ []) ≡ true ∷ true ∷ true ∷ false ∷ false ∷ false ∷ []
  -- 8
  pub axes : map (bad_axis (2 ∷ 3 ∷ [])) (0 ∷ 1 ∷ 2 ∷ (2 ^ 64 - 1) ∷ []) ≡ false ∷ false ∷ true ∷ true ∷ []
  -- copies
  pub copy : copied (wholes (1 ∷ 2 ∷ [])) (wholes (8 ∷ 9 ∷ [])) ≡ wholes (1 ∷ 2 ∷ [])
  pub copy_other : copied (wholes (1 ∷ [])) (wholes (8 ∷ 9 ∷ [])) ≡ wholes (8 ∷ 9 ∷ [])
  -- the shape is judged before the lengths, the lengths before the levels; the grid's own length is wrong, the last of
  -- two that are lent, none
  pub numbers : refusal_of (grid_judged [] [] (1 ∷ [])) ∷ refusal_of (grid_judged (2 ∷ []) (wholes (1 ∷ [])) (2 ∷ []))
      ∷ refusal_of (grid_judged (1 ∷ []) (pos (2 ^ 31) ∷ []) (1 ∷ 2 ∷ []))
      ∷ refusal_of (grid_judged (1 ∷ []) (pos (2 ^ 31) ∷ []) [])
      ∷ refusal_of (grid_judged (1 ∷ []) (pos 1 ∷ []) (1 ∷ 1 ∷ [])) ∷ []
      ≡ 1 ∷ 2 ∷ 2 ∷ 3 ∷ 0 ∷ []
  -- the same of floats: a NaN, −0.0
  pub float-numbers : map (λ x. refusal_of (grid_judged_by bad_float (1 ∷ []) (x ∷ []) (1 ∷ [])))
      (nan ∷ fin true 0 (pos 0) ∷ []) ≡ 3 ∷ 0 ∷ []
