-- Worked rows of this crate's definitions: T4 and lines. Each holds by computing.
--   levels          4 2 7 1
--   MinMaxAxisRows  the rows
use Rattle.std.specs.Prelude.{◌≡◌, true, false, List, [], ◌∷◌, ℤ, pos, negsuc}
use Rattle.std.specs.Int.Signed.{le_z}
use Rattle.border.specs.Border.{constant, along}
use Rattle.border.specs.declared.CellBorder.TheVariants.{Nearest, Reflect}
use Rattle.border.specs.declared.BorderMode.TheVariants as modes
use Rattle.min_max_spec.specs.Run.{answer_of}
use Rattle.min_max_judge.specs.Judge.{call_of}
use Rattle.min_max_axis.specs.Lane.{order_of, extremes_of}
use Rattle.min_max_axis.specs.declared.extreme.Extreme.TheVariants.{Least, Greatest}

abbrev pub levels : List ℤ
levels = pos 4 ∷ pos 2 ∷ pos 7 ∷ pos 1 ∷ []

pub record MinMaxAxisRows : Type 0 where
  pub orders : order_of Least (pos 1) (pos 2) ∷ order_of Greatest (pos 1) (pos 2) ∷ [] ≡ true ∷ false ∷ []
  -- T4, length 3 under Reflect
  pub t4_minimum : answer_of (order_of Least) levels (call_of (4 ∷ []) 3 0 modes.Reflect (pos 0) levels)
      ≡ pos 2 ∷ pos 2 ∷ pos 1 ∷ pos 1 ∷ []
  pub t4_maximum : answer_of (order_of Greatest) levels (call_of (4 ∷ []) 3 0 modes.Reflect (pos 0) levels)
      ≡ pos 4 ∷ pos 7 ∷ pos 7 ∷ pos 7 ∷ []
  -- length 2 under Constant 5: origin 0 reads the cell before, origin −1 the cell after
  pub before : answer_of (order_of Least) levels (call_of (4 ∷ []) 2 0 (modes.Constant (pos 5)) (pos 0) levels)
      ≡ pos 4 ∷ pos 2 ∷ pos 2 ∷ pos 1 ∷ []
  pub after : answer_of (order_of Least) levels (call_of (4 ∷ []) 2 0 (modes.Constant (pos 5)) (negsuc 0) levels)
      ≡ pos 2 ∷ pos 2 ∷ pos 1 ∷ pos 1 ∷ []
  -- the same as lines
  pub line-both : extremes_of le_z (along Reflect) 1 1 levels ≡ pos 2 ∷ pos 2 ∷ pos 1 ∷ pos 1 ∷ []
  pub line_before : extremes_of le_z (constant (pos 5)) 1 0 levels ≡ pos 4 ∷ pos 2 ∷ pos 2 ∷ pos 1 ∷ []
  -- windows of three under Nearest
  pub line-least : extremes_of (order_of Least) (along Nearest) 1 1 levels ≡ pos 2 ∷ pos 2 ∷ pos 1 ∷ pos 1 ∷ []
  pub line_greatest : extremes_of (order_of Greatest) (along Nearest) 1 1 levels ≡ pos 4 ∷ pos 7 ∷ pos 7 ∷ pos 7 ∷ []
