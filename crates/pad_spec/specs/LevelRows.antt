-- Worked rows of this crate's definitions. Each holds by computing.
--   both l r          three pairs of which only the first counts
--   padded mode l r ns cells    what `pad` leaves, one pair for all axes
--   judged mode ns pads count cells out    the number that both calls return
--   over mode ns cells held     what `pad_to` leaves in a grid that held `held`, pads of 1
--   LevelRows           the rows
use Rattle.std.specs.Prelude.{ℕ, ◌+◌, ◌-◌, ◌^◌, ◌≡◌, true, false, List, [], ◌∷◌, map, ℤ, pos}
use Rattle.numbers.specs.Refusal.{refusal_of}
use Rattle.numbers.specs.Rows.{wholes, minus}
use Rattle.border.specs.declared.PadMode.{PadMode}
use Rattle.border.specs.declared.PadMode.TheVariants.{Constant, Edge, Maximum, Mean, Median, Minimum, Reflect, Symmetric, Wrap}
use Rattle.pad_spec.specs.Conditions.{bad_pads, pad_judged}
use Rattle.pad_spec.specs.Levels.{padded_grid, padded_over}
use Rattle.pad_spec.specs.Pads.{lefts_of, rights_of}
use Rattle.pad_spec.specs.declared.pairs.Pair.{Pair}

abbrev pub pair : ℕ → ℕ → Pair
pair l r = record { left = l; right = r }

abbrev pub both : ℕ → ℕ → List Pair
both l r = pair l r ∷ pair 99 99 ∷ pair 99 99 ∷ []

abbrev pub padded : PadMode → ℕ → ℕ → List ℕ → List ℤ → List ℤ
padded mode l r ns cells = padded_grid mode ns (lefts_of ns (both l r) 1) (rights_of ns (both l r) 1) cells

abbrev pub over : PadMode → List ℕ → List ℤ → List ℤ → List ℤ
over mode ns cells held = padded_over mode ns (lefts_of ns (both 1 1) 1) (rights_of ns (both 1 1) 1) cells held

abbrev pub judged : PadMode → List ℕ → List Pair → ℕ → List ℤ → ℕ → ℕ
judged mode ns pads count cells out = refusal_of (pad_judged mode ns pads count cells out)

abbrev pub three : PadMode → List ℤ
three mode = padded mode 2 2 (3 ∷ []) (wholes (1 ∷ 2 ∷ 3 ∷ []))

abbrev pub square : PadMode → List ℤ
square mode = padded mode 1 0 (2 ∷ 2 ∷ []) (wholes (1 ∷ 2 ∷ 4 ∷ 9 ∷ []))

pub record LevelRows : Type 0 where
  -- T1: 1 2 3, pad 2
  pub three_edge : three Edge ≡ wholes (1 ∷ 1 ∷ 1 ∷ 2 ∷ 3 ∷ 3 ∷ 3 ∷ [])
  pub three_reflect : three Reflect ≡ wholes (3 ∷ 2 ∷ 1 ∷ 2 ∷ 3 ∷ 2 ∷ 1 ∷ [])
  pub three_symmetric : three Symmetric ≡ wholes (2 ∷ 1 ∷ 1 ∷ 2 ∷ 3 ∷ 3 ∷ 2 ∷ [])
  pub three_wrap : three Wrap ≡ wholes (2 ∷ 3 ∷ 1 ∷ 2 ∷ 3 ∷ 1 ∷ 2 ∷ [])
  pub three_constant : three (Constant (pos 7)) ≡ wholes (7 ∷ 7 ∷ 1 ∷ 2 ∷ 3 ∷ 7 ∷ 7 ∷ [])
  -- T10
  pub median : padded Median 1 0 (4 ∷ []) (wholes (1 ∷ 2 ∷ 4 ∷ 9 ∷ [])) ≡ wholes (3 ∷ 1 ∷ 2 ∷ 4 ∷ 9 ∷ [])
  pub median_below : padded Median 0 1 (2 ∷ []) (minus 1 ∷ minus 2 ∷ []) ≡ minus 1 ∷ minus 2 ∷ minus 1 ∷ []
  -- the rows 1 2 / 4 9 with one cell before each axis: axis 0 first, then axis 1 reads what axis 0 filled, so the
  -- corner is of the filled row
  pub square_constant : square (Constant (pos 7)) ≡ wholes (7 ∷ 7 ∷ 7 ∷ 7 ∷ 1 ∷ 2 ∷ 7 ∷ 4 ∷ 9 ∷ [])
  pub square_edge : square Edge ≡ wholes (1 ∷ 1 ∷ 2 ∷ 1 ∷ 1 ∷ 2 ∷ 4 ∷ 4 ∷ 9 ∷ [])
  pub square_maximum : square Maximum ≡ wholes (9 ∷ 4 ∷ 9 ∷ 2 ∷ 1 ∷ 2 ∷ 9 ∷ 4 ∷ 9 ∷ [])
  pub square_minimum : square Minimum ≡ wholes (1 ∷ 1 ∷ 2 ∷ 1 ∷ 1 ∷ 2 ∷ 4 ∷ 4 ∷ 9 ∷ [])
  pub square_mean : square Mean ≡ wholes (3 ∷ 2 ∷ 5 ∷ 1 ∷ 1 ∷ 2 ∷ 6 ∷ 4 ∷ 9 ∷ [])
  pub square_median : square Median ≡ wholes (3 ∷ 2 ∷ 5 ∷ 1 ∷ 1 ∷ 2 ∷ 6 ∷ 4 ∷ 9 ∷ [])
  pub square_reflect : square Reflect ≡ wholes (9 ∷ 4 ∷ 9 ∷ 2 ∷ 1 ∷ 2 ∷ 9 ∷ 4 ∷ 9 ∷ [])
  pub square_symmetric : square Symmetric ≡ wholes (1 ∷ 1 ∷ 2 ∷ 1 ∷ 1 ∷ 2 ∷ 4 ∷ 4 ∷ 9 ∷ [])
  pub square_wrap : square Wrap ≡ wholes (9 ∷ 4 ∷ 9 ∷ 2 ∷ 1 ∷ 2 ∷ 9 ∷ 4 ∷ 9 ∷ [])
  -- one pair for each axis: none on axis 0, 1 and 2 on axis 1
  pub pair-each : padded_grid Wrap (1 ∷ 2 ∷ []) (lefts_of (1 ∷ 2 ∷ []) (pair 0 0 ∷ pair 1 2 ∷ pair 99 99 ∷ []) 2)
      (rights_of (1 ∷ 2 ∷ []) (pair 0 0 ∷ pair 1 2 ∷ pair 99 99 ∷ []) 2) (wholes (5 ∷ 6 ∷ []))
      ≡ wholes (6 ∷ 5 ∷ 6 ∷ 5 ∷ 6 ∷ [])
  -- `pad_to`: under Constant the rim keeps what was lent, under Edge it does not
  pub over_constant : over (Constant (pos 7)) (2 ∷ []) (wholes (1 ∷ 2 ∷ [])) (wholes (8 ∷ 8 ∷ 8 ∷ 8 ∷ []))
      ≡ wholes (8 ∷ 1 ∷ 2 ∷ 8 ∷ [])
  pub over_edge : over Edge (2 ∷ []) (wholes (1 ∷ 2 ∷ [])) (wholes (8 ∷ 8 ∷ 8 ∷ 8 ∷ [])) ≡ wholes (1 ∷ 1 ∷ 2 ∷ 2 ∷ [])
  -- 1, 2, 3, 9 before 10
  pub early : judged Edge (0 ∷ []) (both 65 0) 0 [] 0 ∷ judged Edge (2 ∷ []) (both 65 0) 0 (wholes (1 ∷ [])) 0
      ∷ judged Edge (1 ∷ []) (both 65 0) 0 (pos (2 ^ 31) ∷ []) 0
      ∷ judged (Constant (pos (2 ^ 31))) (1 ∷ []) (both 65 0) 0 (wholes (1 ∷ [])) 0 ∷ []
      ≡ 1 ∷ 2 ∷ 3 ∷ 9 ∷ []
  -- 10: counts 0, 2 on three axes, 4, 3, and 1 on three axes of one cell
  pub counts : map (λ c. judged Edge (1 ∷ 1 ∷ 1 ∷ []) (pair 0 0 ∷ pair 0 0 ∷ pair 0 0 ∷ []) c (wholes (5 ∷ [])) 1)
      (0 ∷ 2 ∷ 4 ∷ 3 ∷ 1 ∷ []) ≡ 10 ∷ 10 ∷ 10 ∷ 0 ∷ 0 ∷ []
  -- 10: pads 64, 65 and 2^64 − 1 after one cell; a pad past the count is not looked at (both)
  pub pads : map (λ p. judged Edge (1 ∷ []) (both 0 p) 1 (wholes (5 ∷ [])) 65) (64 ∷ 65 ∷ (2 ^ 64 - 1) ∷ [])
      ≡ 0 ∷ 10 ∷ 10 ∷ []
  -- 10: 32,768 padded cells pass, 129 by 256 do not
  pub cells : bad_pads (1 ∷ 128 ∷ []) (pair 64 63 ∷ pair 64 64 ∷ pair 99 99 ∷ []) 2 32768
      ∷ bad_pads (1 ∷ 128 ∷ []) (pair 64 64 ∷ pair 64 64 ∷ pair 99 99 ∷ []) 2 33024 ∷ [] ≡ false ∷ true ∷ []
  -- 10: an output one short, as long, one over
  pub outputs : map (judged Edge (2 ∷ []) (both 1 1) 1 (wholes (1 ∷ 2 ∷ []))) (3 ∷ 4 ∷ 5 ∷ []) ≡ 10 ∷ 0 ∷ 10 ∷ []
  -- 11 of three cells: Reflect fills 2 and not 3, Symmetric and Wrap 3 and not 4, Edge any
  pub reach_reflect : map (λ p. judged Reflect (3 ∷ []) (both p 0) 1 (wholes (1 ∷ 2 ∷ 3 ∷ [])) (3 + p)) (2 ∷ 3 ∷ [])
      ≡ 0 ∷ 11 ∷ []
  pub reach_symmetric : map (λ p. judged Symmetric (3 ∷ []) (both 0 p) 1 (wholes (1 ∷ 2 ∷ 3 ∷ [])) (3 + p)) (3 ∷ 4 ∷ [])
      ≡ 0 ∷ 11 ∷ []
  pub reach_wrap : map (λ p. judged Wrap (3 ∷ []) (both p p) 1 (wholes (1 ∷ 2 ∷ 3 ∷ [])) (3 + p + p)) (3 ∷ 4 ∷ [])
      ≡ 0 ∷ 11 ∷ []
  pub reach_edge : judged Edge (3 ∷ []) (both 4 4) 1 (wholes (1 ∷ 2 ∷ 3 ∷ [])) 11 ≡ 0
  -- 12 never holds of levels that 3 lets in: the greatest sum of two
  pub sums : map (λ m. judged m (2 ∷ []) (both 1 0) 1 (pos (2 ^ 31 - 1) ∷ pos (2 ^ 31 - 1) ∷ []) 3) (Mean ∷ Median ∷ [])
      ≡ 0 ∷ 0 ∷ []
