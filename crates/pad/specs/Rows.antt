-- Worked rows of this crate's definitions. Each holds by computing.
--   laid_in mode      1 2 in a padded grid of four, one cell from its start
--   PadRows          the rows
use Rattle.std.specs.Prelude.{◌≡◌, List, [], ◌∷◌, ℤ, pos}
use Rattle.numbers.specs.Rows.{wholes}
use Rattle.border.specs.declared.PadMode.{PadMode}
use Rattle.border.specs.declared.PadMode.TheVariants.{Constant, Edge, Maximum}
use Rattle.pad.specs.Laid.{laid}

abbrev pub laid_in : PadMode → List ℤ
laid_in mode = laid mode (2 ∷ []) (1 ∷ []) (4 ∷ []) (wholes (1 ∷ 2 ∷ []))

pub record PadRows : Type 0 where
  pub laid_constant : laid_in (Constant (pos 7)) ≡ wholes (7 ∷ 1 ∷ 2 ∷ 7 ∷ [])
  pub laid_edge : laid_in Edge ≡ wholes (1 ∷ 1 ∷ 2 ∷ 2 ∷ [])
  pub laid_maximum : laid_in Maximum ≡ wholes (2 ∷ 1 ∷ 2 ∷ 2 ∷ [])
