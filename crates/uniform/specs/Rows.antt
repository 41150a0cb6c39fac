-- Worked rows of what the calls answer: T6, an even window, two axes with one border and with two, and a refused call.
-- Each holds by computing.
--   t6            the cells −1 −2 −4
--   oblong        the rows 9 6 −3 / 12 0 15
--   five_nine      Constant 5, Constant 9 and Constant 2^31, a level that is refused
--   UniformRows   the rows
use Rattle.std.specs.Prelude.{◌^◌, ◌≡◌, List, [], ◌∷◌, ℤ, pos}
use Rattle.numbers.specs.Refusal.{refusal_of, left_in}
use Rattle.numbers.specs.Rows.{minus, wholes}
use Rattle.border.specs.Axes.{borders_of}
use Rattle.border.specs.Border.{constant, along}
use Rattle.border.specs.declared.BorderMode.{BorderMode}
use Rattle.border.specs.declared.BorderMode.TheVariants as Whole
use Rattle.border.specs.declared.CellBorder.TheVariants.{Nearest}
use Rattle.uniform_spec.specs.Uniform.{uniform1d, uniform}
use Rattle.uniform_spec.specs.Judge.{uniform1d_judged, uniform_judged}

abbrev pub t6 : List ℤ
t6 = minus 1 ∷ minus 2 ∷ minus 4 ∷ []

abbrev pub oblong : List ℤ
oblong = pos 9 ∷ pos 6 ∷ minus 3 ∷ pos 12 ∷ pos 0 ∷ pos 15 ∷ []

abbrev pub five_nine : List BorderMode
five_nine = Whole.Constant (pos 5) ∷ Whole.Constant (pos 9) ∷ Whole.Constant (pos (2 ^ 31)) ∷ []

pub record UniformRows : Type 0 where
  -- T6: −1 −2 −4, size 3, Constant 0, along axis 0 and along every axis
  pub t6-line : left_in (refusal_of (uniform1d_judged (constant (pos 0)) 3 (3 ∷ []) 0 t6 3))
      (uniform1d (constant (pos 0)) 3 (3 ∷ []) 0 t6) (wholes (7 ∷ 7 ∷ 7 ∷ [])) ≡ minus 1 ∷ minus 2 ∷ minus 2 ∷ []
  pub t6_grid : left_in (refusal_of (uniform_judged (λ _. constant (pos 0)) 3 (3 ∷ []) t6 3 3))
      (uniform (λ _. constant (pos 0)) 3 (3 ∷ []) t6) (wholes (7 ∷ 7 ∷ 7 ∷ [])) ≡ minus 1 ∷ minus 2 ∷ minus 2 ∷ []
  -- −3 over 2 is −1: −1 −2 with size 2 under Nearest
  pub even : left_in (refusal_of (uniform1d_judged (along Nearest) 2 (2 ∷ []) 0 (minus 1 ∷ minus 2 ∷ []) 2))
      (uniform1d (along Nearest) 2 (2 ∷ []) 0 (minus 1 ∷ minus 2 ∷ [])) (wholes (7 ∷ 7 ∷ [])) ≡ minus 1 ∷ minus 1 ∷ []
  -- the rows 1 2 / 3 −6 with size 2 under Nearest: 1 2 / 2 −2 after axis 0, then 1 1 / 2 0
  pub both : uniform (λ _. along Nearest) 2 (2 ∷ 2 ∷ []) (pos 1 ∷ pos 2 ∷ pos 3 ∷ minus 6 ∷ [])
      ≡ pos 1 ∷ pos 1 ∷ pos 2 ∷ pos 0 ∷ []
  -- each axis by its own border, size 2: 7 5 1 / 10 3 6 after axis 0; with two axes the third border is not read
  pub own_borders : left_in (refusal_of (uniform_judged (borders_of five_nine) 2 (2 ∷ 3 ∷ []) oblong 6 6))
      (uniform (borders_of five_nine) 2 (2 ∷ 3 ∷ []) oblong) (wholes (7 ∷ 7 ∷ 7 ∷ 7 ∷ 7 ∷ 7 ∷ []))
      ≡ wholes (8 ∷ 6 ∷ 3 ∷ 9 ∷ 6 ∷ 4 ∷ [])
  -- with three axes it is: 9
  pub third_border : refusal_of (uniform_judged (borders_of five_nine) 2 (1 ∷ 2 ∷ 3 ∷ []) oblong 6 6) ≡ 9
  -- size 9 on three cells: half is 4, so the grid form leaves what was held, and the one-axis form fills
  pub half_over_lem : left_in (refusal_of (uniform_judged (λ _. along Nearest) 9 (3 ∷ []) t6 3 3))
      (uniform (λ _. along Nearest) 9 (3 ∷ []) t6) (wholes (7 ∷ 7 ∷ 7 ∷ [])) ≡ wholes (7 ∷ 7 ∷ 7 ∷ [])
  pub half_along : left_in (refusal_of (uniform1d_judged (along Nearest) 9 (3 ∷ []) 0 t6 3))
      (uniform1d (along Nearest) 9 (3 ∷ []) 0 t6) (wholes (7 ∷ 7 ∷ 7 ∷ [])) ≡ minus 2 ∷ minus 2 ∷ minus 2 ∷ []
