-- Worked rows of this crate's definitions. Each holds by computing.
--   Called side w       T8's grid with a kernel of this side and the weights w
--   CorrelateGridRows   the rows
use Rattle.std.specs.Prelude.{ℕ, List, [], ◌∷◌, ℤ}
use Rattle.numbers.specs.Rows.{wholes}
use Rattle.border.specs.Border.{along}
use Rattle.border.specs.declared.CellBorder.TheVariants.{Nearest}
use Rattle.correlate_grid.specs.Kernel.{KernelCallNeeds}

abbrev pub Called : ℕ → List ℤ → Type 0
Called side w = KernelCallNeeds (along Nearest) (2 ∷ 2 ∷ []) side 1 0 w (wholes (1 ∷ 2 ∷ 3 ∷ 4 ∷ []))
    (wholes (0 ∷ 0 ∷ 0 ∷ 0 ∷ []))

pub record CorrelateGridRows : Type 0 where
  -- T8; a weight that is missing, one that is too large, and a side that the pads do not hold
  pub called : Called 2 (wholes (1 ∷ 0 ∷ 0 ∷ 10 ∷ []))
  pub called_few : Called 2 (wholes (1 ∷ 0 ∷ 0 ∷ [])) → ⊥
  pub called_heavy : Called 2 (wholes (1 ∷ 0 ∷ 0 ∷ 65536 ∷ [])) → ⊥
  pub called_wide : (w : List ℤ) → Called 3 w → ⊥
