-- The arguments of a call, out of what was read for a request: the reader's state s, levels and floats l.
--   cells_from at n l   the n cells of l from a place on, or as many as there are
--   shape_in s          the lengths of the axes, at most 4: one more than any call takes, which has the same refusal
--   sides_in s          the sides of a kernel, as many
--   data_in s l         the levels of the grid, at most 8193
--   weights_in s l      the weights, at most 344
--   as_code n           a number as a code; 255, which names nothing, beyond that
--   code_in s           the code of a border, padding mode or kernel
--   border_at n l place the border of the code n, whose constant is at a place
--   border_in s l       the border        border_in_f64 s l   the border of floats
--   borders_in s l      the borders of axes 0, 1 and 2, where a request takes three
--   padding_in s l      the padding mode
--   pads_in s           three pairs of pads
--   most_out n          how many cells are lent as the output of request n at most: one more than any call takes
--   is_whole n form     whether request n has an output of whole levels: all before symmetry, under any form but f,
--                      whose code is 1
--   file_in s f         the bytes of a recipe file
--   step_numbers_in s l  the numbers of its steps, six of each, of at most 16 steps
--   recipe_count_in s    the count that is written to a file; 255, which has the same refusal, beyond that
--   level_of_mark b      a mark of a mask as a level
--   bad_mark z          whether a level of a mask is neither 0 nor 1
--   marks_by l m        as many marks as levels, each whether its level is above 0; m where there are not as many
--   levels_by m l       as many levels as marks; l where there are not as many
--   kernel_levels k     the 27 cells of a kernel as levels, the last axis fastest
use Rattle.std.specs.Prelude.{ℕ, ◌*◌, min, Bool, false, cond, not, ◌&&◌, ◌||◌, List, [], ◌∷◌, eqb, ltb, Float, ℤ, pos, length, get_or, take, drop}
use Rattle.std.specs.Float.{nan}
use Rattle.std.specs.Int.Signed.{lt_z}
use Rattle.numbers.specs.Lists.{tabulate}
use Rattle.numbers.specs.Ranges.{outside_z}
use Rattle.border.specs.declared.BorderMode.{BorderMode}
use Rattle.border.specs.declared.BorderModeF64.{BorderModeF64}
use Rattle.border.specs.declared.PadMode.{PadMode}
use Rattle.pad_spec.specs.declared.pairs.Pair.{Pair}
use Rattle.kernel3d.specs.declared.Kernel3d.{Kernel3d}
use Rattle.codes_cells.specs.Cells.{kernel_cell}
use Rattle.codes.specs.Codes.{mode_of, mode_of_f64, padding_of}

abbrev pub cells_from : {A : Type 0} → ℕ → ℕ → List A → List A
cells_from at n l = take n (drop at l)

abbrev pub shape_in : List ℕ → List ℕ
shape_in s = cells_from 20 (min (get_or s 9 0) 4) s

abbrev pub sides_in : List ℕ → List ℕ
sides_in s = cells_from 24 (min (get_or s 11 0) 4) s

abbrev pub data_in : {A : Type 0} → List ℕ → List A → List A
data_in s l = cells_from 0 (min (get_or s 10 0) 8193) l

abbrev pub weights_in : {A : Type 0} → List ℕ → List A → List A
weights_in s l = cells_from 8193 (min (get_or s 12 0) 344) l

abbrev pub as_code : ℕ → ℕ
as_code n = min n 255

abbrev pub code_in : List ℕ → ℕ
code_in s = as_code (get_or s 15 0)

abbrev pub border_at : ℕ → List ℤ → ℕ → BorderMode
border_at n l place = mode_of (as_code n) (get_or l place (pos 0))

abbrev pub border_in : List ℕ → List ℤ → BorderMode
border_in s l = border_at (get_or s 15 0) l 8537

abbrev pub borders_in : List ℕ → List ℤ → List BorderMode
borders_in s l = border_at (get_or s 15 0) l 8537 ∷ border_at (get_or s 36 0) l 41404 ∷ border_at (get_or s 37 0) l 41405 ∷ []

abbrev pub border_in_f64 : List ℕ → List Float → BorderModeF64
border_in_f64 s l = mode_of_f64 (code_in s) (get_or l 8537 nan)

abbrev pub padding_in : List ℕ → List ℤ → PadMode
padding_in s l = padding_of (code_in s) (get_or l 8537 (pos 0))

abbrev pub pads_in : List ℕ → List Pair
pads_in s =
    record { left = get_or s 28 0; right = get_or s 29 0 }
    ∷ record { left = get_or s 30 0; right = get_or s 31 0 }
    ∷ record { left = get_or s 32 0; right = get_or s 33 0 }
    ∷ []

abbrev pub most_out : ℕ → ℕ
most_out n = cond (eqb n 12 || eqb n 13) 32769 8193

abbrev pub is_whole : ℕ → ℕ → Bool
is_whole n form = not (eqb form 1) && ltb n 16

abbrev pub file_in : List ℕ → List ℕ → List ℕ
file_in s f = cells_from 0 (get_or s 19 0) f

abbrev pub step_numbers_in : List ℕ → List ℤ → List ℤ
step_numbers_in s l = cells_from 41308 (6 * min (get_or s 35 0) 16) l

abbrev pub recipe_count_in : List ℕ → ℕ
recipe_count_in s = min (get_or s 34 0) 255

abbrev pub level_of_mark : Bool → ℤ
level_of_mark b = cond b (pos 1) (pos 0)

abbrev pub bad_mark : ℤ → Bool
bad_mark z = outside_z (pos 0) (pos 1) z

abbrev pub marks_by : List ℤ → List Bool → List Bool
marks_by l m = cond (eqb (length l) (length m)) (tabulate (λ k. lt_z (pos 0) (get_or l k (pos 0))) 0 (length m)) m

abbrev pub levels_by : List Bool → List ℤ → List ℤ
levels_by m l = cond (eqb (length m) (length l)) (tabulate (λ k. level_of_mark (get_or m k false)) 0 (length l)) l

abbrev pub kernel_levels : Kernel3d → List ℤ
kernel_levels k = tabulate (λ i. level_of_mark (kernel_cell k i)) 0 27
