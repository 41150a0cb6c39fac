-- Worked rows of this crate's definitions. Each holds by computing.
--   MeanRows   the rows
use Rattle.std.specs.Prelude.{◌≡◌, [], ◌∷◌, pos}
use Rattle.numbers.specs.Rows.{minus}
use Rattle.uniform_spec.specs.Mean.{cut, means}

pub record MeanRows : Type 0 where
  -- cut toward zero: 3, −3, −1 over 2 and −6 over 3
  pub cuts : cut (pos 3) 2 ∷ cut (minus 3) 2 ∷ cut (minus 1) 2 ∷ cut (minus 6) 3 ∷ []
      ≡ pos 1 ∷ minus 1 ∷ pos 0 ∷ minus 2 ∷ []
  -- the padded line of T6, 0 −1 −2 −4 0, in windows of three; a window of one cell is the cell
  pub t6 : means (pos 0 ∷ minus 1 ∷ minus 2 ∷ minus 4 ∷ pos 0 ∷ []) 3 3 ≡ minus 1 ∷ minus 2 ∷ minus 2 ∷ []
  pub alone : means (minus 1 ∷ minus 2 ∷ []) 1 2 ≡ minus 1 ∷ minus 2 ∷ []
