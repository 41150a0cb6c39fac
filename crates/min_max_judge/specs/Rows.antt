-- Worked rows of this crate's definitions: the refusals of both forms. Each holds by computing.
--   square            the rows 5 3 / 4 9
--   on_square ..       a grid call on them, with the same border on every axis
--   by_square ..       the number of a grid call on them, each axis with its own border
--   along_square ..    the number of a one-axis call on them
--   MinMaxJudgeRows   the rows
use Rattle.std.specs.Prelude.{ℕ, ◌≡◌, List, [], ◌∷◌, ℤ, pos}
use Rattle.numbers.specs.Refusal.{refusal_of}
use Rattle.border.specs.declared.BorderMode.{BorderMode}
use Rattle.border.specs.declared.BorderMode.TheVariants as modes
use Rattle.min_max_spec.specs.Call.{call_judged}
use Rattle.min_max_spec.specs.Filters.{GridCall}
use Rattle.min_max_judge.specs.Judge.{call_of, grid_call_of, filter_axes_judged, filter_judged}

abbrev pub square : List ℤ
square = pos 5 ∷ pos 3 ∷ pos 4 ∷ pos 9 ∷ []

abbrev pub on_square : ℕ → BorderMode → ℤ → GridCall
on_square size m o = grid_call_of (2 ∷ 2 ∷ []) size (m ∷ m ∷ m ∷ []) o square

abbrev pub by_square : List ℕ → ℕ → BorderMode → BorderMode → BorderMode → ℕ
by_square shape size m n p = refusal_of (filter_judged square (grid_call_of shape size (m ∷ n ∷ p ∷ []) (pos 0) square) 4)

abbrev pub along_square : ℕ → ℕ → BorderMode → ℤ → ℕ
along_square size a m o = refusal_of (call_judged square (call_of (2 ∷ 2 ∷ []) size a m o square))

pub record MinMaxJudgeRows : Type 0 where
  -- the refusals of a one-axis call: accepted on the last axis, length 66, origin 1 of length 2, axis 2, Constant 2^31,
  -- Mirror with length 5 on two cells
  pub last-axis : along_square 2 1 modes.Wrap (pos 0) ≡ 0
  pub along_size_66 : along_square 66 0 modes.Nearest (pos 0) ≡ 5
  pub along_origin_1 : along_square 2 0 modes.Nearest (pos 1) ≡ 7
  pub axis_2 : along_square 2 2 modes.Nearest (pos 0) ≡ 8
  pub along_constant_out : along_square 2 0 (modes.Constant (pos 2147483648)) (pos 0) ≡ 9
  pub along_reach_out : along_square 5 0 modes.Mirror (pos 0) ≡ 11
  -- the refusals of a grid call: a second grid of 3 cells, length 66, origin 1 of length 2, Constant 2^31, Mirror with
  -- length 5 on two cells
  pub second_short : refusal_of (filter_judged square (on_square 2 modes.Wrap (pos 0)) 3) ≡ 2
  pub accepted : refusal_of (filter_judged square (on_square 2 modes.Wrap (pos 0)) 4) ≡ 0
  pub size_66 : refusal_of (filter_judged square (on_square 66 modes.Nearest (pos 0)) 4) ≡ 5
  pub origin_1 : refusal_of (filter_judged square (on_square 2 modes.Nearest (pos 1)) 4) ≡ 7
  pub constant_out : refusal_of (filter_judged square (on_square 2 (modes.Constant (pos 2147483648)) (pos 0)) 4) ≡ 9
  pub reach_out : refusal_of (filter_judged square (on_square 5 modes.Mirror (pos 0)) 4) ≡ 11
  pub last-axis_out : refusal_of (filter_axes_judged
      (grid_call_of (9 ∷ 2 ∷ []) 5 (modes.Mirror ∷ modes.Mirror ∷ modes.Mirror ∷ []) (pos 0) [])) ≡ 11
  -- each axis with its own border: Mirror with length 5 on the first axis alone, on the last alone, past the last; on 4
  -- by 1 cells the last alone cannot fill a pad
  pub own_reach : by_square (2 ∷ 2 ∷ []) 5 modes.Mirror modes.Nearest modes.Nearest
      ∷ by_square (2 ∷ 2 ∷ []) 5 modes.Nearest modes.Mirror modes.Nearest
      ∷ by_square (2 ∷ 2 ∷ []) 5 modes.Nearest modes.Nearest modes.Mirror
      ∷ by_square (4 ∷ 1 ∷ []) 3 modes.Mirror modes.Nearest modes.Nearest
      ∷ by_square (4 ∷ 1 ∷ []) 3 modes.Nearest modes.Mirror modes.Nearest ∷ [] ≡ 11 ∷ 11 ∷ 0 ∷ 0 ∷ 11 ∷ []
  -- Constant 2^31 on the first axis alone, on the last alone, past the last (of two axes, of one); also with length 1,
  -- where nothing is padded
  pub own_constant_lem : by_square (2 ∷ 2 ∷ []) 2 (modes.Constant (pos 2147483648)) modes.Nearest modes.Nearest
      ∷ by_square (2 ∷ 2 ∷ []) 2 modes.Nearest (modes.Constant (pos 2147483648)) modes.Nearest
      ∷ by_square (2 ∷ 2 ∷ []) 2 modes.Nearest modes.Nearest (modes.Constant (pos 2147483648))
      ∷ by_square (4 ∷ []) 2 modes.Nearest (modes.Constant (pos 2147483648)) modes.Nearest
      ∷ by_square (2 ∷ 2 ∷ []) 1 modes.Nearest (modes.Constant (pos 2147483648)) modes.Nearest ∷ []
      ≡ 9 ∷ 9 ∷ 0 ∷ 0 ∷ 9 ∷ []
  -- 9 of the last axis comes before 11 of the first
  pub constant_first : by_square (2 ∷ 2 ∷ []) 5 modes.Mirror (modes.Constant (pos 2147483648)) modes.Nearest ≡ 9
