-- Worked rows of this crate's definitions. Each holds by computing.
--   GradientRows   the rows
use Rattle.std.specs.Prelude.{◌≡◌, [], ◌∷◌, map}
use Rattle.gradient.specs.Others.{first_other, last_other}

pub record GradientRows : Type 0 where
  -- beside axis 0 of three stand 1 and 2, beside axis 1 stand 0 and 2, beside axis 2 stand 0 and 1
  pub first : map first_other (0 ∷ 1 ∷ 2 ∷ []) ≡ 1 ∷ 0 ∷ 0 ∷ []
  pub last : map last_other (0 ∷ 1 ∷ 2 ∷ []) ≡ 2 ∷ 2 ∷ 1 ∷ []
