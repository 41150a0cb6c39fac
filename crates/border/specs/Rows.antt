-- Worked rows of this crate's definitions. Each holds by computing.
--   bad m n pads               condition 11 of each of the pads, of a lane of n cells under the border m
--   extended_three b x y z      the cells x y z under border b, from coordinate −2 to 4
--   plane b p                  the level at p of the rows 1 2 3 / 4 5 6, extended by b
--   cube b p                   the level at p of the 2 × 2 × 2 grid of 1 to 8, extended by b
--   BorderRows                 the rows
use Rattle.std.specs.Prelude.{ℕ, ◌-◌, ◌^◌, ◌≡◌, Bool, true, false, List, [], ◌∷◌, map, Float, ℤ, pos, get_or}
use Rattle.std.specs.Float.{nan, inf, fin}
use Rattle.numbers.specs.Lists.{up_from}
use Rattle.numbers.specs.Rows.{minus, wholes}
use Rattle.array_spec.specs.Conditions.{bad_level, bad_float}
use Rattle.border.specs.Border.{Border, constant, along, extended_lane, extended_grid}
use Rattle.border.specs.Modes.{border_of, border_of_f64, pad_mode_of, kind_of, bad_constant_by}
use Rattle.border.specs.Reach.{bad_pad}
use Rattle.border.specs.declared.BorderMode.{BorderMode}
use Rattle.border.specs.declared.CellBorder.TheVariants as CellBorder
use Rattle.border.specs.declared.BorderMode.TheVariants as Whole
use Rattle.border.specs.declared.BorderModeF64.TheVariants as F64
use Rattle.border.specs.declared.PadMode.TheVariants as Pad

abbrev pub extended_three : {A : Type 0} → Border A → A → A → A → List A
extended_three b x y z = map (extended_lane b 3 (λ i. get_or (x ∷ y ∷ z ∷ []) i x)) (up_from (minus 2) 7)

abbrev pub bad : BorderMode → ℕ → List ℕ → List Bool
bad m n pads = map (bad_pad (border_of m) n) pads

abbrev pub plane : Border ℤ → List ℤ → ℤ
plane b p = extended_grid (pos 0) b (2 ∷ 3 ∷ []) (wholes (1 ∷ 2 ∷ 3 ∷ 4 ∷ 5 ∷ 6 ∷ [])) (λ a. get_or p a (pos 0))

abbrev pub cube : Border ℤ → List ℤ → ℤ
cube b p = extended_grid (pos 0) b (2 ∷ 2 ∷ 2 ∷ []) (wholes (1 ∷ 2 ∷ 3 ∷ 4 ∷ 5 ∷ 6 ∷ 7 ∷ 8 ∷ [])) (λ a. get_or p a (pos 0))

pub record BorderRows : Type 0 where
  -- T1: 1 2 3, pad 2
  pub three_mirror : extended_three (border_of Whole.Mirror) (pos 1) (pos 2) (pos 3)
      ≡ wholes (3 ∷ 2 ∷ 1 ∷ 2 ∷ 3 ∷ 2 ∷ 1 ∷ [])
  pub three_nearest : extended_three (border_of Whole.Nearest) (pos 1) (pos 2) (pos 3)
      ≡ wholes (1 ∷ 1 ∷ 1 ∷ 2 ∷ 3 ∷ 3 ∷ 3 ∷ [])
  pub three_reflect : extended_three (border_of Whole.Reflect) (pos 1) (pos 2) (pos 3)
      ≡ wholes (2 ∷ 1 ∷ 1 ∷ 2 ∷ 3 ∷ 3 ∷ 2 ∷ [])
  pub three_wrap : extended_three (border_of Whole.Wrap) (pos 1) (pos 2) (pos 3) ≡ wholes (2 ∷ 3 ∷ 1 ∷ 2 ∷ 3 ∷ 1 ∷ 2 ∷ [])
  pub three_constant : extended_three (border_of (Whole.Constant (pos 7))) (pos 1) (pos 2) (pos 3)
      ≡ wholes (7 ∷ 7 ∷ 1 ∷ 2 ∷ 3 ∷ 7 ∷ 7 ∷ [])
  -- the same of any floats
  pub floats_mirror : (x y z : Float) → extended_three (border_of_f64 F64.Mirror) x y z ≡ z ∷ y ∷ x ∷ y ∷ z ∷ y ∷ x ∷ []
  pub floats_nearest : (x y z : Float) → extended_three (border_of_f64 F64.Nearest) x y z ≡ x ∷ x ∷ x ∷ y ∷ z ∷ z ∷ z ∷ []
  pub floats_reflect : (x y z : Float) → extended_three (border_of_f64 F64.Reflect) x y z ≡ y ∷ x ∷ x ∷ y ∷ z ∷ z ∷ y ∷ []
  pub floats_wrap : (x y z : Float) → extended_three (border_of_f64 F64.Wrap) x y z ≡ y ∷ z ∷ x ∷ y ∷ z ∷ x ∷ y ∷ []
  pub floats_constant : (t x y z : Float) → extended_three (border_of_f64 (F64.Constant t)) x y z
      ≡ t ∷ t ∷ x ∷ y ∷ z ∷ t ∷ t ∷ []
  -- two axes, Constant 9: inside; outside on the first axis alone, on the last alone, on both
  pub plane_constant : map (plane (constant (pos 9))) ((pos 1 ∷ pos 2 ∷ []) ∷ (minus 1 ∷ pos 1 ∷ [])
      ∷ (pos 1 ∷ pos 3 ∷ []) ∷ (pos 2 ∷ minus 1 ∷ []) ∷ []) ≡ wholes (6 ∷ 9 ∷ 9 ∷ 9 ∷ [])
  -- each coordinate by itself: cells 1 1, 0 0, 1 0
  pub plane_mirror : map (plane (along CellBorder.Mirror))
      ((minus 1 ∷ minus 1 ∷ []) ∷ (pos 2 ∷ pos 4 ∷ []) ∷ (minus 1 ∷ pos 0 ∷ []) ∷ []) ≡ wholes (5 ∷ 1 ∷ 4 ∷ [])
  -- cells 0 0, 1 1, 1 2
  pub plane_reflect : map (plane (along CellBorder.Reflect))
      ((minus 1 ∷ minus 1 ∷ []) ∷ (minus 2 ∷ pos 4 ∷ []) ∷ (pos 2 ∷ pos 3 ∷ []) ∷ []) ≡ wholes (1 ∷ 5 ∷ 6 ∷ [])
  -- cells 1 2, 0 1, 1 0
  pub plane_wrap : map (plane (along CellBorder.Wrap))
      ((minus 1 ∷ minus 1 ∷ []) ∷ (pos 2 ∷ pos 4 ∷ []) ∷ (minus 1 ∷ pos 3 ∷ []) ∷ []) ≡ wholes (6 ∷ 2 ∷ 4 ∷ [])
  -- cells 0 2, 1 0
  pub plane_nearest : map (plane (along CellBorder.Nearest)) ((minus 9 ∷ pos 9 ∷ []) ∷ (pos 9 ∷ minus 9 ∷ []) ∷ [])
      ≡ wholes (3 ∷ 4 ∷ [])
  -- three axes, Constant 9: inside; outside on the first axis alone, the second alone, the last alone, all
  pub cube_constant : map (cube (constant (pos 9)))
      ((pos 1 ∷ pos 1 ∷ pos 1 ∷ []) ∷ (pos 2 ∷ pos 1 ∷ pos 1 ∷ []) ∷ (pos 1 ∷ minus 1 ∷ pos 1 ∷ [])
      ∷ (pos 1 ∷ pos 1 ∷ pos 2 ∷ []) ∷ (minus 1 ∷ pos 2 ∷ minus 1 ∷ []) ∷ [])
      ≡ wholes (8 ∷ 9 ∷ 9 ∷ 9 ∷ 9 ∷ [])
  -- cells 1 0 0, 0 1 1 and 1 0 1
  pub cube_mirror : cube (along CellBorder.Mirror) (minus 1 ∷ pos 2 ∷ pos 0 ∷ []) ≡ pos 5
  pub cube_reflect : cube (along CellBorder.Reflect) (minus 1 ∷ pos 2 ∷ minus 2 ∷ []) ≡ pos 4
  pub cube_wrap : cube (along CellBorder.Wrap) (minus 1 ∷ pos 2 ∷ minus 1 ∷ []) ≡ pos 6
  -- padding's names
  pub pad_constant : (t : ℤ) → pad_mode_of (Whole.Constant t) ≡ Pad.Constant t
  pub pad_modes : map pad_mode_of (Whole.Mirror ∷ Whole.Nearest ∷ Whole.Reflect ∷ Whole.Wrap ∷ [])
      ≡ Pad.Reflect ∷ Pad.Edge ∷ Pad.Symmetric ∷ Pad.Wrap ∷ []
  -- the kind of a float border
  pub kind_constant : (t : Float) → kind_of (F64.Constant t) ≡ Whole.Constant (pos 0)
  pub kinds : map kind_of (F64.Mirror ∷ F64.Nearest ∷ F64.Reflect ∷ F64.Wrap ∷ [])
      ≡ Whole.Mirror ∷ Whole.Nearest ∷ Whole.Reflect ∷ Whole.Wrap ∷ []
  -- constants −2^31, −(2^31 − 1), 0, 2^31 − 1, 2^31; borders that carry none; a NaN, an infinity, −0.0, 1.0
  pub constants : map (λ z. bad_constant_by bad_level (constant z))
      (minus (2 ^ 31) ∷ minus (2 ^ 31 - 1) ∷ pos 0 ∷ pos (2 ^ 31 - 1) ∷ pos (2 ^ 31) ∷ [])
      ≡ true ∷ false ∷ false ∷ false ∷ true ∷ []
  pub no_constants : map (λ m. bad_constant_by bad_level (along m))
      (CellBorder.Nearest ∷ CellBorder.Mirror ∷ CellBorder.Reflect ∷ CellBorder.Wrap ∷ [])
      ≡ false ∷ false ∷ false ∷ false ∷ []
  pub float-constants : map (λ x. bad_constant_by bad_float (constant x))
      (nan ∷ inf true ∷ fin true 0 (pos 0) ∷ fin false 1 (pos 0) ∷ []) ≡ true ∷ true ∷ false ∷ false ∷ []
  -- condition 11 of three cells and of one
  pub reach_mirror : bad Whole.Mirror 3 (0 ∷ 2 ∷ 3 ∷ []) ≡ false ∷ false ∷ true ∷ []
  pub reach_reflect : bad Whole.Reflect 3 (3 ∷ 4 ∷ []) ≡ false ∷ true ∷ []
  pub reach_wrap : bad Whole.Wrap 3 (3 ∷ 4 ∷ []) ≡ false ∷ true ∷ []
  pub reach_nearest : bad Whole.Nearest 3 (64 ∷ []) ≡ false ∷ []
  pub reach_constant : bad (Whole.Constant (pos 7)) 3 (64 ∷ []) ≡ false ∷ []
  pub reach-one : bad Whole.Mirror 1 (0 ∷ 1 ∷ []) ≡ false ∷ true ∷ []
