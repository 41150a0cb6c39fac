-- Worked rows on floats of `pad_line`'s definitions. Each holds by computing, whatever the floats are.
--   padded m left right s   the lane s padded under the border m
--   bad m n pads            condition 11 of each of the pads, of a lane of n cells under the border m
--   PadLineF64Rows          the rows
use Rattle.std.specs.Prelude.{ℕ, ◌≡◌, Bool, true, false, List, [], ◌∷◌, map, Float}
use Rattle.std.specs.Float.{nan}
use Rattle.numbers.specs.Windows.{window_of}
use Rattle.border.specs.Modes.{border_of_f64}
use Rattle.border.specs.declared.BorderModeF64.{BorderModeF64}
use Rattle.border.specs.declared.BorderModeF64.TheVariants as F64
use Rattle.pad_line.specs.Line.{padded_line}
use Rattle.border.specs.Reach.{bad_pad}

abbrev pub padded : BorderModeF64 → ℕ → ℕ → List Float → List Float
padded m left right s = padded_line nan (border_of_f64 m) left right s

abbrev pub bad : BorderModeF64 → ℕ → List ℕ → List Bool
bad m n pads = map (bad_pad (border_of_f64 m) n) pads

pub record PadLineF64Rows : Type 0 where
  -- T1 of any three floats
  pub floats_mirror : (x y z : Float) → padded F64.Mirror 2 2 (x ∷ y ∷ z ∷ []) ≡ z ∷ y ∷ x ∷ y ∷ z ∷ y ∷ x ∷ []
  pub floats_nearest : (x y z : Float) → padded F64.Nearest 2 2 (x ∷ y ∷ z ∷ []) ≡ x ∷ x ∷ x ∷ y ∷ z ∷ z ∷ z ∷ []
  pub floats_reflect : (x y z : Float) → padded F64.Reflect 2 2 (x ∷ y ∷ z ∷ []) ≡ y ∷ x ∷ x ∷ y ∷ z ∷ z ∷ y ∷ []
  pub floats_wrap : (x y z : Float) → padded F64.Wrap 2 2 (x ∷ y ∷ z ∷ []) ≡ y ∷ z ∷ x ∷ y ∷ z ∷ x ∷ y ∷ []
  -- pads 1 and 2 of one cell
  pub floats_constant : (t x : Float) → padded (F64.Constant t) 1 2 (x ∷ []) ≡ t ∷ x ∷ t ∷ t ∷ []
  -- condition 11 of three cells
  pub bad_mirror : bad F64.Mirror 3 (2 ∷ 3 ∷ []) ≡ false ∷ true ∷ []
  pub bad_reflect : bad F64.Reflect 3 (3 ∷ 4 ∷ []) ≡ false ∷ true ∷ []
  pub bad_wrap : bad F64.Wrap 3 (3 ∷ 4 ∷ []) ≡ false ∷ true ∷ []
  pub bad_nearest : bad F64.Nearest 3 (64 ∷ []) ≡ false ∷ []
  -- a window that ends with the line, and one that passes its end
  pub last-window : (x y z : Float) → window_of (x ∷ y ∷ z ∷ []) 1 2 ≡ y ∷ z ∷ []
  pub past-window : (x y z : Float) → window_of (x ∷ y ∷ z ∷ []) 2 2 ≡ []
