-- Worked rows about the arguments of calls.
--   NdimageArgumentsRows   the rows
use Rattle.std.specs.Prelude.{ℕ, ◌≡◌, true, false, List, [], ◌∷◌, ◌++◌, map, pos, nat_abs, replicate}
use Rattle.ndimage_arguments.specs.Arguments.{cells_from, shape_in, sides_in, code_in, border_at, border_in}
use Rattle.ndimage_arguments.specs.Arguments.{borders_in, padding_in, pads_in, most_out, is_whole}
use Rattle.ndimage_arguments.specs.Arguments.{level_of_mark, bad_mark, marks_by, levels_by}
use Rattle.ndimage_arguments.specs.Arguments.{kernel_levels, file_in, step_numbers_in, recipe_count_in}
use Rattle.codes.specs.Codes.{kernel_of}
use Rattle.border.specs.declared.BorderMode.TheVariants as Whole
use Rattle.border.specs.declared.PadMode.TheVariants as Pad

-- a state after reading: slots 0 to 7; no form, two axes, six cells, five sides; no weights, size and axis, code c;
-- two pairs, an output, no second grid, a file of 3 bytes; lengths 2 and 3; a recipe's count of 300, one step; reflect
-- and wrap on axes 1 and 2
abbrev pub read : ℕ → List ℕ
read c =
    replicate 8 0
    ++ (0 ∷ 2 ∷ 6 ∷ 5 ∷ 0 ∷ 0 ∷ 0 ∷ c ∷ 2 ∷ 6 ∷ 0 ∷ 3 ∷ [])
    ++ (2 ∷ 3 ∷ 0 ∷ 0 ∷ 7 ∷ 8 ∷ 9 ∷ 10 ∷ 1 ∷ 4 ∷ 2 ∷ 5 ∷ [])
    ++ (0 ∷ 0 ∷ 300 ∷ 1 ∷ 3 ∷ 4 ∷ [])
    ++ replicate 10 0

pub record NdimageArgumentsRows : Type 0 where
  -- as many cells as asked, or as there are
  pub two_cells : cells_from {A = ℕ} 1 2 (4 ∷ 5 ∷ 6 ∷ 7 ∷ []) ≡ 5 ∷ 6 ∷ []
  pub past_end : cells_from {A = ℕ} 3 2 (4 ∷ 5 ∷ 6 ∷ 7 ∷ []) ≡ 7 ∷ []
  pub beyond : cells_from {A = ℕ} 9 2 (4 ∷ 5 ∷ 6 ∷ 7 ∷ []) ≡ []
  -- lengths and sides; of five sides four are lent
  pub lengths : shape_in (read 0) ≡ 2 ∷ 3 ∷ []
  pub four-sides : sides_in (read 0) ≡ 7 ∷ 8 ∷ 9 ∷ 10 ∷ []
  -- the code of a border and of a padding mode
  pub mirror : border_in (read 1) [] ≡ Whole.Mirror
  pub reflect : border_in (read 3) [] ≡ Whole.Reflect
  pub constant : border_in (read 0) [] ≡ Whole.Constant (pos 0)
  pub borders : borders_in (read 1) [] ≡ Whole.Mirror ∷ Whole.Reflect ∷ Whole.Wrap ∷ []
  pub third_constant : border_at 0 (pos 7 ∷ pos 8 ∷ []) 1 ≡ Whole.Constant (pos 8)
  pub edge : padding_in (read 1) [] ≡ Pad.Edge
  pub wrap : padding_in (read 8) [] ≡ Pad.Wrap
  pub no_code : code_in (read 256) ≡ 255
  -- pairs that were not given are 0
  pub pads : pads_in (read 0)
      ≡ record { left = 1; right = 4 } ∷ record { left = 2; right = 5 } ∷ record { left = 0; right = 0 } ∷ []
  -- outputs of pads are larger; those of symmetry and of floats are not whole levels
  pub pad_out : most_out 13 ≡ 32769
  pub sobel_out : most_out 11 ≡ 8193
  pub correlate1d_whole : is_whole 2 0 ≡ true
  pub correlate1d_float : is_whole 2 1 ≡ false
  pub play_whole : is_whole 15 0 ≡ true
  pub symmetry_other : is_whole 16 0 ≡ false
  -- a file of three bytes; no numbers of a step where there are no levels; a count beyond a byte
  pub file : file_in (read 0) (76 ∷ 75 ∷ 83 ∷ 0 ∷ 1 ∷ []) ≡ 76 ∷ 75 ∷ 83 ∷ []
  pub no_step-numbers : step_numbers_in (read 0) [] ≡ []
  pub count_lent : recipe_count_in (read 0) ≡ 255
  pub marked : level_of_mark true ≡ pos 1
  pub two-odd : bad_mark (pos 2) ≡ true
  pub one-mark : bad_mark (pos 1) ≡ false
  pub marks : marks_by (pos 1 ∷ pos 0 ∷ []) (false ∷ true ∷ []) ≡ true ∷ false ∷ []
  pub marks_short : marks_by (pos 1 ∷ []) (false ∷ true ∷ []) ≡ false ∷ true ∷ []
  pub levels : levels_by (true ∷ false ∷ []) (pos 5 ∷ pos 6 ∷ []) ≡ pos 1 ∷ pos 0 ∷ []
  -- the star: a cross of five in the middle plane, one cell before it and one after
  pub star : map nat_abs (kernel_levels (kernel_of 0))
      ≡ 0 ∷ 0 ∷ 0 ∷ 0 ∷ 1 ∷ 0 ∷ 0 ∷ 0 ∷ 0 ∷ 0 ∷ 1 ∷ 0 ∷ 1 ∷ 1 ∷ 1 ∷ 0 ∷ 1 ∷ 0 ∷ 0 ∷ 0 ∷ 0 ∷ 0 ∷ 1 ∷ 0 ∷ 0 ∷ 0 ∷ 0 ∷ []
