-- Worked rows of this crate's definitions. Each holds by computing.
--   minus n       −n
--   wholes ns     the natural numbers ns as whole numbers
--   NumbersRows   the rows
use Rattle.std.specs.Prelude.{Ok, Err, ℕ, ◌+◌, ◌-◌, ◌*◌, ◌^◌, ◌≡◌, true, false, List, [], ◌∷◌, map, eqb, ℤ, pos, negsuc, neg_ℤ}
use Rattle.std.specs.Int.Signed.{le_z, quot_z}
use Rattle.numbers.specs.Limits.{longest_axis, most_cells, largest_level, largest_between, longest_window, longest_side, largest_weight, longest_pad, longest_line, longest_padded_axis, most_padded_cells}
use Rattle.numbers.specs.Lists.{tabulate, up_from, any_of}
use Rattle.numbers.specs.Number.{refusal_number, answer_number}
use Rattle.numbers.specs.declared.Refusal.TheVariants.{Shape, Length, Level, SingleCell, Kernel, Weight, Origin, Axis}
use Rattle.numbers.specs.declared.Refusal.TheVariants.{Constant, Pads, Reach, Sum, Mark, Count, Step, Unknown}
use Rattle.numbers.specs.Order.{at_least, extreme}
use Rattle.numbers.specs.Ranges.{outside, outside_z, over, beyond}
use Rattle.numbers.specs.Refusal.{refusal_of, left_in, ScratchAnswers}
use Rattle.numbers.specs.Sums.{sum_of}
use Rattle.numbers.specs.Windows.{window_of}

abbrev pub minus : ℕ → ℤ
minus n = neg_ℤ (pos n)

abbrev pub wholes : List ℕ → List ℤ
wholes ns = map pos ns

pub record NumbersRows : Type 0 where
  -- of several conditions that hold the lowest number counts; 0 where none does
  pub lowest : refusal_of ((false, 1) ∷ (true, 3) ∷ (true, 9) ∷ []) ≡ 3
  pub accepted : refusal_of ((false, 1) ∷ (false, 3) ∷ []) ≡ 0
  -- the numbers of refusals, and of an accepted call
  pub owner_numbers : map refusal_number (Shape ∷ Length ∷ Level ∷ SingleCell ∷ []) ≡ 1 ∷ 2 ∷ 3 ∷ 4 ∷ []
  pub author_numbers : map refusal_number (Kernel ∷ Weight ∷ Origin ∷ []) ≡ 5 ∷ 6 ∷ 7 ∷ []
  pub operator_numbers : map refusal_number (Axis ∷ Constant ∷ Pads ∷ Reach ∷ []) ≡ 8 ∷ 9 ∷ 10 ∷ 11 ∷ []
  pub other_numbers : map refusal_number (Sum ∷ Mark ∷ Count ∷ Step ∷ Unknown ∷ []) ≡ 12 ∷ 13 ∷ 14 ∷ 15 ∷ 100 ∷ []
  pub answers : map answer_number (Ok tt ∷ Err Reach ∷ []) ≡ 0 ∷ 11 ∷ []
  -- a refusal leaves what was held, an accepted call the levels
  pub refused_keeps : left_in 3 (wholes (1 ∷ 2 ∷ [])) (wholes (8 ∷ 9 ∷ [])) ≡ wholes (8 ∷ 9 ∷ [])
  pub accepted_fills : left_in 0 (wholes (1 ∷ 2 ∷ [])) (wholes (8 ∷ 9 ∷ [])) ≡ wholes (1 ∷ 2 ∷ [])
  -- of two scratch grids an accepted call leaves zeros, each as long as it was, and a refused one what they held
  pub scratch_zero : ScratchAnswers (pos 0) ((false, 3) ∷ []) (wholes (1 ∷ 2 ∷ [])) (wholes (8 ∷ 9 ∷ []))
      (wholes (3 ∷ 4 ∷ []) ∷ wholes (5 ∷ []) ∷ [])
      0 (wholes (1 ∷ 2 ∷ [])) (wholes (0 ∷ 0 ∷ []) ∷ wholes (0 ∷ []) ∷ [])
  pub scratch_kept : ScratchAnswers (pos 0) ((true, 3) ∷ []) (wholes (1 ∷ 2 ∷ [])) (wholes (8 ∷ 9 ∷ []))
      (wholes (3 ∷ 4 ∷ []) ∷ wholes (5 ∷ []) ∷ [])
      3 (wholes (8 ∷ 9 ∷ [])) (wholes (3 ∷ 4 ∷ []) ∷ wholes (5 ∷ []) ∷ [])
  -- the least and the greatest, wherever they stand; the given level where there is none
  pub extreme-first : extreme le_z (pos 0) (minus 7 ∷ pos 3 ∷ pos 3 ∷ []) ≡ minus 7
  pub extreme-last : extreme le_z (pos 0) (pos 4 ∷ pos 2 ∷ pos 7 ∷ pos 1 ∷ []) ≡ pos 1
  pub greatest_inside : extreme at_least (pos 0) (pos 4 ∷ pos 2 ∷ pos 7 ∷ pos 1 ∷ []) ≡ pos 7
  pub extreme-none : extreme le_z (pos 5) [] ≡ pos 5
  -- tables and ranges
  pub table : tabulate (λ k. 10 * k) 2 3 ≡ 20 ∷ 30 ∷ 40 ∷ []
  pub range : up_from (minus 2) 4 ≡ minus 2 ∷ minus 1 ∷ pos 0 ∷ pos 1 ∷ []
  pub some_member : any_of (eqb 3) (1 ∷ 2 ∷ 3 ∷ []) ≡ true
  pub no_member : any_of (eqb 4) (1 ∷ 2 ∷ 3 ∷ []) ≡ false
  -- a window that ends with its line, one that passes its end, and one of no cells past it
  pub windows : window_of (wholes (1 ∷ 2 ∷ 3 ∷ [])) 1 2 ∷ window_of (wholes (1 ∷ 2 ∷ 3 ∷ [])) 2 2
      ∷ window_of (wholes (1 ∷ 2 ∷ 3 ∷ [])) 4 0 ∷ [] ≡ wholes (2 ∷ 3 ∷ []) ∷ [] ∷ [] ∷ []
  -- the limits of document 01; a line is an axis and the pads of a window, a padded axis an axis and two pads
  pub limits : longest_axis ∷ most_cells ∷ longest_window ∷ longest_side ∷ largest_weight ∷ longest_pad ∷ most_padded_cells ∷ []
      ≡ 1024 ∷ 8192 ∷ 65 ∷ 7 ∷ 65535 ∷ 64 ∷ 32768 ∷ []
  pub limits_lines : longest_line ∷ longest_padded_axis ∷ []
      ≡ (longest_axis + (longest_window - 1)) ∷ (longest_pad + longest_axis + longest_pad) ∷ []
  pub limits_levels : largest_level ∷ largest_between ∷ [] ≡ 2147483647 ∷ 274877906944 ∷ []
  -- both ends of a range are inside
  pub ends : map (outside 1 3) (0 ∷ 1 ∷ 3 ∷ 4 ∷ []) ≡ true ∷ false ∷ false ∷ true ∷ []
  pub sizes : map (over 2) (minus 3 ∷ minus 2 ∷ pos 2 ∷ pos 3 ∷ []) ≡ true ∷ false ∷ false ∷ true ∷ []
  pub signed_ends : map (outside_z (minus 2) (pos 1)) (minus 3 ∷ minus 2 ∷ pos 1 ∷ pos 2 ∷ [])
      ≡ true ∷ false ∷ false ∷ true ∷ []
  -- −2^63 − 1, −2^63, 2^63 − 1, 2^63
  pub bits : map beyond (negsuc (2 ^ 63) ∷ minus (2 ^ 63) ∷ pos (2 ^ 63 - 1) ∷ pos (2 ^ 63) ∷ [])
      ≡ true ∷ false ∷ false ∷ true ∷ []
  pub sum : sum_of (pos 5 ∷ minus 7 ∷ pos 1 ∷ []) ≡ minus 1
  -- the kit's quotient is cut toward zero
  pub cut : map (λ z. quot_z z (pos 2)) (pos 3 ∷ minus 3 ∷ minus 1 ∷ []) ≡ pos 1 ∷ minus 1 ∷ pos 0 ∷ []
