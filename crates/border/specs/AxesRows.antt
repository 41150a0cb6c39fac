-- Worked rows of a border for each axis. Each holds by computing.
--   plane_by b c p       the level at p of the rows 1 2 3 / 4 5 6, extended by b on axis 0 and by c on axis 1
--   cube_by b c e p      the level at p of the 2 × 2 × 2 grid of 1 to 8, extended by b, c and e on axes 0, 1 and 2
--   three               Nearest, Constant 5 and Constant 2^31, as a call takes them
--   AxesRows            the rows
use Rattle.std.specs.Prelude.{◌^◌, ◌≡◌, true, false, List, [], ◌∷◌, map, ℤ, pos, get_or}
use Rattle.numbers.specs.Rows.{minus, wholes}
use Rattle.array_spec.specs.Conditions.{bad_level}
use Rattle.border.specs.Border.{Border, constant, along, extended_grid_by}
use Rattle.border.specs.Axes.{mode_on, borders_of, any_axis, bad_constants}
use Rattle.border.specs.Reach.{bad_pad}
use Rattle.border.specs.declared.BorderMode.{BorderMode}
use Rattle.border.specs.declared.BorderMode.TheVariants as Whole
use Rattle.border.specs.declared.CellBorder.TheVariants.{Mirror, Wrap}

abbrev pub plane_by : Border ℤ → Border ℤ → List ℤ → ℤ
plane_by b c p = extended_grid_by (pos 0) (λ a. get_or (b ∷ c ∷ []) a b) (2 ∷ 3 ∷ [])
    (wholes (1 ∷ 2 ∷ 3 ∷ 4 ∷ 5 ∷ 6 ∷ [])) (λ a. get_or p a (pos 0))

abbrev pub cube_by : Border ℤ → Border ℤ → Border ℤ → List ℤ → ℤ
cube_by b c e p = extended_grid_by (pos 0) (λ a. get_or (b ∷ c ∷ e ∷ []) a b) (2 ∷ 2 ∷ 2 ∷ [])
    (wholes (1 ∷ 2 ∷ 3 ∷ 4 ∷ 5 ∷ 6 ∷ 7 ∷ 8 ∷ [])) (λ a. get_or p a (pos 0))

abbrev pub three : List BorderMode
three = Whole.Nearest ∷ Whole.Constant (pos 5) ∷ Whole.Constant (pos (2 ^ 31)) ∷ []

pub record AxesRows : Type 0 where
  -- Constant 7 and Constant 9: inside; outside on the first axis alone, on the last alone, on both: the first's constant
  pub two-constants : map (plane_by (constant (pos 7)) (constant (pos 9)))
      ((pos 1 ∷ pos 2 ∷ []) ∷ (minus 1 ∷ pos 1 ∷ []) ∷ (pos 1 ∷ pos 3 ∷ []) ∷ (pos 2 ∷ minus 1 ∷ []) ∷ [])
      ≡ wholes (6 ∷ 7 ∷ 9 ∷ 7 ∷ [])
  -- Constant 7 and Wrap: outside on the first axis alone, on the last alone (cell 1 0), on both
  pub constant_wrap : map (plane_by (constant (pos 7)) (along Wrap))
      ((minus 1 ∷ pos 1 ∷ []) ∷ (pos 1 ∷ pos 3 ∷ []) ∷ (pos 2 ∷ minus 1 ∷ []) ∷ []) ≡ wholes (7 ∷ 4 ∷ 7 ∷ [])
  -- Wrap and Constant 9: outside on the first axis alone (cell 1 1), on the last alone, on both
  pub wrap_constant : map (plane_by (along Wrap) (constant (pos 9)))
      ((minus 1 ∷ pos 1 ∷ []) ∷ (pos 1 ∷ pos 3 ∷ []) ∷ (minus 1 ∷ minus 1 ∷ []) ∷ []) ≡ wholes (5 ∷ 9 ∷ 9 ∷ [])
  -- Mirror and Wrap, each coordinate by its own: cells 1 2 and 0 0
  pub mirror_wrap : map (plane_by (along Mirror) (along Wrap))
      ((minus 1 ∷ minus 1 ∷ []) ∷ (pos 2 ∷ pos 3 ∷ []) ∷ []) ≡ wholes (6 ∷ 1 ∷ [])
  -- Wrap, Constant 7 and Constant 9: outside on the first axis alone (cell 1 0 1), on the first and the last, on all
  pub cube-mixed : map (cube_by (along Wrap) (constant (pos 7)) (constant (pos 9)))
      ((minus 1 ∷ pos 0 ∷ pos 1 ∷ []) ∷ (minus 1 ∷ pos 0 ∷ pos 2 ∷ []) ∷ (minus 1 ∷ minus 1 ∷ pos 2 ∷ []) ∷ [])
      ≡ wholes (6 ∷ 9 ∷ 7 ∷ [])
  -- the mode of axes 0 to 3, and the border of axis 1
  pub modes : map (mode_on three) (0 ∷ 1 ∷ 2 ∷ 3 ∷ [])
      ≡ Whole.Nearest ∷ Whole.Constant (pos 5) ∷ Whole.Constant (pos (2 ^ 31)) ∷ Whole.Constant (pos (2 ^ 31)) ∷ []
  pub named : borders_of three 1 ≡ constant (pos 5)
  -- 9: the third border counts on three axes and not on two
  pub constants : map (bad_constants bad_level (borders_of three)) ((4 ∷ 1 ∷ 2 ∷ []) ∷ (4 ∷ 2 ∷ []) ∷ (8 ∷ []) ∷ [])
      ≡ true ∷ false ∷ false ∷ []
  -- a pad of two cells under Wrap and Mirror: the shape 1 3 stops at Wrap, 2 2 at Mirror, 2 3 at none
  pub reaches : map (any_axis (λ b n. bad_pad {A = ℤ} b n 2) (λ a. get_or (along Wrap ∷ along Mirror ∷ []) a (along Wrap)))
      ((1 ∷ 3 ∷ []) ∷ (2 ∷ 2 ∷ []) ∷ (2 ∷ 3 ∷ []) ∷ []) ≡ true ∷ true ∷ false ∷ []
