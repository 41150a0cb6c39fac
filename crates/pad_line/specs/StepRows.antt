-- Worked rows of this crate's definitions. Each holds by computing.
--   before m from    the cells 1 2 3 with two places before them filled by the steps of m, the first read at place from
--   StepRows        the rows
use Rattle.std.specs.Prelude.{ℕ, ◌≡◌, List, [], ◌∷◌}
use Rattle.border.specs.declared.CellBorder.{CellBorder}
use Rattle.border.specs.declared.CellBorder.TheVariants.{Nearest, Mirror, Reflect, Wrap}
use Rattle.pad_line.specs.Steps.{step_up, step_down, step_set}

abbrev pub before : CellBorder → ℕ → List ℕ
before m from = step_set 0 (step_up m) (step_down m) from 0 2 (9 ∷ 9 ∷ 1 ∷ 2 ∷ 3 ∷ [])

pub record StepRows : Type 0 where
  -- T1: 1 2 3, pad 2, the places before
  pub nearest : before Nearest 2 ≡ 1 ∷ 1 ∷ 1 ∷ 2 ∷ 3 ∷ []
  pub mirror : before Mirror 4 ≡ 3 ∷ 2 ∷ 1 ∷ 2 ∷ 3 ∷ []
  pub reflect : before Reflect 3 ≡ 2 ∷ 1 ∷ 1 ∷ 2 ∷ 3 ∷ []
  pub wrap : before Wrap 3 ≡ 2 ∷ 3 ∷ 1 ∷ 2 ∷ 3 ∷ []
