-- Worked rows of this crate's definitions. Each holds by computing.
--   Placing w         the weights w on a line of two cells
--   Correlate1dRows   the rows
use Rattle.std.specs.Prelude.{List, [], ◌∷◌, ℤ, pos}
use Rattle.numbers.specs.Rows.{minus, wholes}
use Rattle.border.specs.Border.{along}
use Rattle.border.specs.declared.CellBorder.TheVariants.{Nearest}
use Rattle.correlate1d.specs.WeighNeeds.{ScaleNeeds, PlaceNeeds, WeighNeeds}

abbrev pub Placing : List ℤ → Type 0
Placing w = PlaceNeeds (along Nearest) (2 ∷ []) 0 (pos 0) w (wholes (4 ∷ 5 ∷ [])) (wholes (0 ∷ 0 ∷ []))

pub record Correlate1dRows : Type 0 where
  -- a level and a weight at their limits, a weight past them, and an output that is too short
  pub scales : ScaleNeeds (pos 2147483647 ∷ []) (minus 65535) (pos 0 ∷ [])
  pub scales_heavy : ScaleNeeds (pos 1 ∷ []) (pos 65536) (pos 0 ∷ []) → ⊥
  pub scales_short : ScaleNeeds (wholes (1 ∷ 2 ∷ [])) (pos 1) (pos 0 ∷ []) → ⊥
  -- three weights, and one alone
  pub placed : Placing (wholes (1 ∷ 2 ∷ 3 ∷ []))
  pub placed_one : Placing (pos 1 ∷ []) → ⊥
  -- weights may be placed and yet too large
  pub weighs_heavy : WeighNeeds (along Nearest) (2 ∷ []) 0 (pos 0) (wholes (1 ∷ 65536 ∷ [])) (wholes (4 ∷ 5 ∷ []))
      (wholes (0 ∷ 0 ∷ [])) → ⊥
