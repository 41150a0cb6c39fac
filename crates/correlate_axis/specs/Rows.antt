-- Worked rows of this crate's definitions. Each holds by computing.
--   CorrelateAxisRows the rows
use Rattle.std.specs.Prelude.{◌+◌, ◌^◌, ◌≡◌, true, false, [], ◌∷◌, map, pos}
use Rattle.numbers.specs.Rows.{minus, wholes}
use Rattle.border.specs.Border.{along}
use Rattle.border.specs.declared.CellBorder.TheVariants.{Nearest}
use Rattle.symmetry_spec.specs.declared.SymmetryState.TheVariants.{NonSymmetric}
use Rattle.correlate_spec.specs.Weighed.{whole_ops}
use Rattle.correlate_spec.specs.Correlated.{correlated_line}
use Rattle.correlate_axis.specs.WeightNeeds.{too_large, WeightNeeds}

pub record CorrelateAxisRows : Type 0 where
  pub limits : map too_large (minus (2 ^ 38 + 1) ∷ minus (2 ^ 38) ∷ pos 0 ∷ pos (2 ^ 38) ∷ pos (2 ^ 38 + 1) ∷ [])
      ≡ true ∷ false ∷ false ∷ false ∷ true ∷ []
  -- four weights take levels of 2^38, five do not
  pub four : WeightNeeds (wholes (1 ∷ 1 ∷ 1 ∷ 1 ∷ [])) (along Nearest) (pos (2 ^ 38) ∷ [])
  pub five_not : WeightNeeds (wholes (1 ∷ 1 ∷ 1 ∷ 1 ∷ 1 ∷ [])) (along Nearest) (pos (2 ^ 38) ∷ []) → ⊥
  -- 4 2 7 1 under Nearest in windows of three with the weights 1 2 3
  pub weighed : correlated_line whole_ops NonSymmetric (along Nearest) 1 1 (wholes (1 ∷ 2 ∷ 3 ∷ []))
      (wholes (4 ∷ 2 ∷ 7 ∷ 1 ∷ []))
      ≡ wholes (18 ∷ 29 ∷ 19 ∷ 12 ∷ [])
