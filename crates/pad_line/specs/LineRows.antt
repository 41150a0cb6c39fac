-- Worked rows of this crate's definitions. Each holds by computing.
--   padded m left right   the cells 1 2 3 padded under the border m
--   bad m n pads          condition 11 of each of the pads, of a lane of n cells under the border m
--   filtered f m left right
--                         the line filter f on the lane 1 2 3 under the border m
--   down m left right l room
--                         what padding lane l of axis 0 of the rows 1 2 3 / 4 5 6 leaves in a line of that many cells,
--                         all 9
--   LineRows           the rows
use Rattle.std.specs.Prelude.{ℕ, ◌≡◌, Bool, List, [], ◌∷◌, map, ℤ, pos, replicate, take}
use Rattle.numbers.specs.Windows.{window_of}
use Rattle.numbers.specs.Rows.{wholes}
use Rattle.border.specs.Modes.{border_of}
use Rattle.border.specs.declared.BorderMode.{BorderMode}
use Rattle.border.specs.declared.BorderMode.TheVariants as Whole
use Rattle.pad_line.specs.Line.{padded_line, padded_lane}
use Rattle.border.specs.Reach.{bad_pad}
use Rattle.pad_line.specs.Lane.{filtered_lane}

abbrev pub padded : BorderMode → ℕ → ℕ → List ℤ
padded m left right = padded_line (pos 0) (border_of m) left right (wholes (1 ∷ 2 ∷ 3 ∷ []))

abbrev pub bad : BorderMode → ℕ → List ℕ → List Bool
bad m n pads = map (bad_pad (border_of m) n) pads

abbrev pub filtered : (List ℤ → ℕ → List ℤ) → BorderMode → ℕ → ℕ → List ℤ
filtered f m left right = filtered_lane (pos 0) f (border_of m) left right (wholes (1 ∷ 2 ∷ 3 ∷ []))

abbrev pub down : BorderMode → ℕ → ℕ → ℕ → ℕ → List ℤ
down m left right l room =
    padded_lane (pos 0) (border_of m) 2 3 l left right (wholes (1 ∷ 2 ∷ 3 ∷ 4 ∷ 5 ∷ 6 ∷ [])) (replicate room (pos 9))

pub record LineRows : Type 0 where
  -- T1: 1 2 3, pad 2
  pub three_mirror : padded Whole.Mirror 2 2 ≡ wholes (3 ∷ 2 ∷ 1 ∷ 2 ∷ 3 ∷ 2 ∷ 1 ∷ [])
  pub three_nearest : padded Whole.Nearest 2 2 ≡ wholes (1 ∷ 1 ∷ 1 ∷ 2 ∷ 3 ∷ 3 ∷ 3 ∷ [])
  pub three_reflect : padded Whole.Reflect 2 2 ≡ wholes (2 ∷ 1 ∷ 1 ∷ 2 ∷ 3 ∷ 3 ∷ 2 ∷ [])
  pub three_wrap : padded Whole.Wrap 2 2 ≡ wholes (2 ∷ 3 ∷ 1 ∷ 2 ∷ 3 ∷ 1 ∷ 2 ∷ [])
  pub three_constant : padded (Whole.Constant (pos 7)) 2 2 ≡ wholes (7 ∷ 7 ∷ 1 ∷ 2 ∷ 3 ∷ 7 ∷ 7 ∷ [])
  -- pads 1 and 3, and none
  pub unequal_reflect : padded Whole.Reflect 1 3 ≡ wholes (1 ∷ 1 ∷ 2 ∷ 3 ∷ 3 ∷ 2 ∷ 1 ∷ [])
  pub unequal_wrap : padded Whole.Wrap 1 3 ≡ wholes (3 ∷ 1 ∷ 2 ∷ 3 ∷ 1 ∷ 2 ∷ 3 ∷ [])
  pub unequal_constant : padded (Whole.Constant (pos 7)) 1 3 ≡ wholes (7 ∷ 1 ∷ 2 ∷ 3 ∷ 7 ∷ 7 ∷ 7 ∷ [])
  pub no_pads : padded Whole.Mirror 0 0 ≡ wholes (1 ∷ 2 ∷ 3 ∷ [])
  -- the window of the last cell ends with the line; one place on it is empty
  pub last-window : window_of (padded Whole.Mirror 2 2) 2 5 ≡ wholes (1 ∷ 2 ∷ 3 ∷ 2 ∷ 1 ∷ [])
  pub past-window : window_of (padded Whole.Mirror 2 2) 3 5 ≡ []
  -- a line filter gets the whole padded line and the number of the lane's cells: the first cell of each window, and
  -- the line itself
  pub filtered-first : filtered (λ p n. take n p) Whole.Mirror 2 1 ≡ wholes (3 ∷ 2 ∷ 1 ∷ [])
  pub filtered-line : filtered (λ p n. p) Whole.Wrap 1 2 ≡ wholes (3 ∷ 1 ∷ 2 ∷ 3 ∷ 1 ∷ 2 ∷ [])
  -- a lane padded in a line that is longer, and as long; what is past the padded line stays
  pub down_reflect : down Whole.Reflect 1 2 1 7 ≡ wholes (2 ∷ 2 ∷ 5 ∷ 5 ∷ 2 ∷ 9 ∷ 9 ∷ [])
  pub down_nearest : down Whole.Nearest 3 0 2 5 ≡ wholes (3 ∷ 3 ∷ 3 ∷ 3 ∷ 6 ∷ [])
  -- the line stays: a lane past the grid, a line too short, a pad that condition 11 refuses on the left, on the right
  pub down-past : down Whole.Reflect 1 1 3 4 ≡ wholes (9 ∷ 9 ∷ 9 ∷ 9 ∷ [])
  pub down_short : down Whole.Reflect 1 2 1 4 ≡ wholes (9 ∷ 9 ∷ 9 ∷ 9 ∷ [])
  pub down-bad-left : down Whole.Mirror 2 0 1 4 ≡ wholes (9 ∷ 9 ∷ 9 ∷ 9 ∷ [])
  pub down-bad-right : down Whole.Mirror 0 2 1 4 ≡ wholes (9 ∷ 9 ∷ 9 ∷ 9 ∷ [])
