-- Worked rows of this crate's definitions. Each holds by computing.
--   bits ns         a mask from 1 and 0
--   at p            the coordinates in the list p
--   cube t f        a mask of 3 by 3 by 3 cells: t true ones, then f false ones
--   six             the mask 1 1 0 / 1 0 0 // 1 0 1 / 0 1 0, of 2 by 2 by 3 cells
--   judged_on ns len out   the number of a call
--   MedianSpecRows   the rows
use Rattle.std.specs.Prelude.{ℕ, ◌≡◌, Bool, true, false, List, [], ◌∷◌, map, ◌++◌, eqb, get_or, replicate}
use Rattle.numbers.specs.Refusal.{refusal_of}
use Rattle.median_spec.specs.Judge.{bad_axes, bad_single, median_judged}
use Rattle.median_spec.specs.Around.{up_to, around, total, one, cells_around, true_around, median_at, median_answer}
use Rattle.median_spec.specs.ByRows.{span_of, cell_of, plane_count, column_count, added, voted_at, in_row, set_row}

abbrev pub bits : List ℕ → List Bool
bits ns = map (eqb 1) ns

abbrev pub at : List ℕ → ℕ → ℕ
at p a = get_or p a 0

abbrev pub cube : ℕ → ℕ → List Bool
cube t f = replicate t true ++ replicate f false

abbrev pub six : List Bool
six = bits (1 ∷ 1 ∷ 0 ∷ 1 ∷ 0 ∷ 0 ∷ 1 ∷ 0 ∷ 1 ∷ 0 ∷ 1 ∷ 0 ∷ [])

abbrev pub judged_on : List ℕ → ℕ → ℕ → ℕ
judged_on ns len out = refusal_of (median_judged ns len out)

pub record MedianSpecRows : Type 0 where
  -- the first, a middle and the last cell of an axis; the cells of an axis of two; the cell of an axis of one
  pub neighbours : around 5 0 ∷ around 5 2 ∷ around 5 4 ∷ around 2 0 ∷ around 2 1 ∷ around 1 0 ∷ []
      ≡ (0 ∷ 1 ∷ []) ∷ (1 ∷ 2 ∷ 3 ∷ []) ∷ (3 ∷ 4 ∷ []) ∷ (0 ∷ 1 ∷ []) ∷ (0 ∷ 1 ∷ []) ∷ (0 ∷ []) ∷ []
  pub sums : total (λ j. j) (up_to 2 5) ∷ one true ∷ one false ∷ [] ≡ 9 ∷ 1 ∷ 0 ∷ []
  -- at a corner, on an edge, on a face and inside
  pub cells : map (λ p. cells_around (3 ∷ 3 ∷ 3 ∷ []) (at p))
      ((0 ∷ 0 ∷ 0 ∷ []) ∷ (0 ∷ 1 ∷ 2 ∷ []) ∷ (1 ∷ 1 ∷ 2 ∷ []) ∷ (1 ∷ 1 ∷ 1 ∷ []) ∷ []) ≡ 8 ∷ 12 ∷ 18 ∷ 27 ∷ []
  -- T9: of 8 cells four are enough and three are not
  pub t9_four : median_answer (2 ∷ 2 ∷ 2 ∷ []) (bits (1 ∷ 0 ∷ 1 ∷ 0 ∷ 0 ∷ 1 ∷ 0 ∷ 1 ∷ [])) ≡ replicate 8 true
  pub t9_three : median_answer (2 ∷ 2 ∷ 2 ∷ []) (bits (1 ∷ 0 ∷ 1 ∷ 0 ∷ 0 ∷ 1 ∷ 0 ∷ 0 ∷ [])) ≡ replicate 8 false
  -- SciPy, which extends the grid at the border, leaves this mask as it is
  pub clipped : median_answer (2 ∷ 2 ∷ 2 ∷ []) (bits (1 ∷ 1 ∷ 0 ∷ 0 ∷ 0 ∷ 1 ∷ 0 ∷ 1 ∷ [])) ≡ replicate 8 true
  -- of 27 cells 14 are needed
  pub middle : median_at (3 ∷ 3 ∷ 3 ∷ []) (cube 13 14) (at (1 ∷ 1 ∷ 1 ∷ []))
      ∷ median_at (3 ∷ 3 ∷ 3 ∷ []) (cube 14 13) (at (1 ∷ 1 ∷ 1 ∷ [])) ∷ [] ≡ false ∷ true ∷ []
  -- 5, 6 and 3 of 8, 12 and 8 cells; of 12 cells five are not enough
  pub counts : map (λ z. true_around (2 ∷ 2 ∷ 3 ∷ []) six (at (0 ∷ 1 ∷ z ∷ []))) (0 ∷ 1 ∷ 2 ∷ []) ≡ 5 ∷ 6 ∷ 3 ∷ []
  pub half_of_twelve : median_answer (2 ∷ 2 ∷ 3 ∷ []) six ≡ bits (1 ∷ 1 ∷ 0 ∷ 1 ∷ 1 ∷ 0 ∷ 1 ∷ 1 ∷ 0 ∷ 1 ∷ 1 ∷ 0 ∷ [])
  pub five_of_twelve : median_at (2 ∷ 2 ∷ 3 ∷ []) (bits (1 ∷ 1 ∷ 0 ∷ 1 ∷ 0 ∷ 0 ∷ 1 ∷ 0 ∷ 1 ∷ [])) (at (0 ∷ 1 ∷ 1 ∷ []))
      ≡ false
  -- the same row by row: cell 2 of row 0 of plane 1; the counts of plane 0 and of both planes; the votes of four rows
  pub cell : cell_of six 2 3 1 0 2 ≡ 1
  pub plane : map (plane_count six 2 3 (span_of 2 1) 0) (0 ∷ 1 ∷ 2 ∷ []) ≡ 2 ∷ 1 ∷ 0 ∷ []
  pub columns : map (column_count six 2 3 (span_of 2 0) (span_of 2 1)) (0 ∷ 1 ∷ 2 ∷ []) ≡ 3 ∷ 2 ∷ 1 ∷ []
  pub votes : map (voted_at (3 ∷ 2 ∷ 1 ∷ []) 4) (0 ∷ 1 ∷ 2 ∷ []) ≡ true ∷ true ∷ false ∷ []
  pub sum : added (λ z. z) (5 ∷ 5 ∷ 5 ∷ []) ≡ 5 ∷ 6 ∷ 7 ∷ []
  pub place : map (in_row 2 3) (1 ∷ 2 ∷ 4 ∷ 5 ∷ []) ≡ false ∷ true ∷ true ∷ false ∷ []
  pub set : set_row 1 2 (λ k. true) (bits (0 ∷ 0 ∷ 0 ∷ 0 ∷ [])) ≡ bits (0 ∷ 1 ∷ 1 ∷ 0 ∷ [])
  -- 1: no axis, two axes, four; 1,025 cells on an axis; over 8,192 cells
  pub axes : map bad_axes ([] ∷ (2 ∷ 2 ∷ []) ∷ (2 ∷ 2 ∷ 2 ∷ 2 ∷ []) ∷ (2 ∷ 2 ∷ 1025 ∷ []) ∷ (32 ∷ 32 ∷ 9 ∷ [])
      ∷ (2 ∷ 2 ∷ 2 ∷ []) ∷ []) ≡ true ∷ true ∷ true ∷ true ∷ true ∷ false ∷ []
  -- 4
  pub single : map bad_single ((1 ∷ 1 ∷ 1 ∷ []) ∷ (2 ∷ 1 ∷ 2 ∷ []) ∷ (2 ∷ 2 ∷ 1 ∷ []) ∷ (2 ∷ 2 ∷ 2 ∷ []) ∷ [])
      ≡ true ∷ true ∷ true ∷ false ∷ []
  -- the numbers: two axes and four are 1; a mask or an output of 7 cells is 2; a single cell on every axis, or on one,
  -- is 4
  pub two_axes : judged_on (2 ∷ 4 ∷ []) 8 8 ≡ 1
  pub four_axes : judged_on (2 ∷ 2 ∷ 2 ∷ 2 ∷ []) 16 16 ≡ 1
  pub lengths : judged_on (2 ∷ 2 ∷ 2 ∷ []) 7 8 ∷ judged_on (2 ∷ 2 ∷ 2 ∷ []) 8 7 ∷ [] ≡ 2 ∷ 2 ∷ []
  pub one_cell : judged_on (1 ∷ 1 ∷ 1 ∷ []) 1 1 ∷ judged_on (2 ∷ 1 ∷ 2 ∷ []) 4 4 ∷ [] ≡ 4 ∷ 4 ∷ []
  -- the lowest of several: 1 before 2 and 4, 2 before 4
  pub order : judged_on (1 ∷ 2 ∷ []) 3 3 ∷ judged_on (2 ∷ 1 ∷ 2 ∷ []) 5 4 ∷ [] ≡ 1 ∷ 2 ∷ []
  pub accepted : judged_on (2 ∷ 2 ∷ 2 ∷ []) 8 8 ≡ 0
