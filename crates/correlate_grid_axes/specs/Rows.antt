-- Worked rows of this crate's definitions. Each holds by computing.
--   sources_of b n left right    the sources of an axis of n cells, from left places before cell 0 on
--   CorrelateGridAxesRows       the rows
use Rattle.std.specs.Prelude.{ℕ, ◌+◌, ◌≡◌, List, [], ◌∷◌, ℤ, pos, ◌-ℤ◌}
use Rattle.numbers.specs.Lists.{tabulate}
use Rattle.numbers.specs.Rows.{wholes, minus}
use Rattle.border.specs.Border.{Border, constant, along}
use Rattle.border.specs.declared.CellBorder.TheVariants.{Nearest, Mirror}
use Rattle.correlate_grid_axes.specs.Axes.{axis_from, source_for, Serves}

abbrev pub sources_of : Border ℤ → ℕ → ℕ → ℕ → List ℤ
sources_of b n left right = tabulate (λ k. source_for b n (pos k -ℤ pos left)) 0 (left + n + right)

pub record CorrelateGridAxesRows : Type 0 where
  -- the sources of three cells under Mirror, and of two under Constant: −1 for none
  pub sources : sources_of (along Mirror) 3 2 2 ≡ wholes (2 ∷ 1 ∷ 0 ∷ 1 ∷ 2 ∷ 1 ∷ 0 ∷ [])
  pub no_source : sources_of (constant (pos 7)) 2 1 1 ≡ minus 1 ∷ pos 0 ∷ pos 1 ∷ minus 1 ∷ []
  -- the rows of a grid of 4 by 5, and its planes, which it does not have
  pub axes : axis_from (4 ∷ 5 ∷ []) 1 3 1 2 ∷ axis_from (4 ∷ 5 ∷ []) 2 3 1 2 ∷ []
      ≡ record { len = 4; left = 1; right = 2; side = 3 } ∷ record { len = 1; left = 0; right = 0; side = 1 } ∷ []
  -- no window of three cells in pads of one and none
  pub serves_not : Serves (along Nearest) (record { len = 4; left = 1; right = 0; side = 3 }) → ⊥
