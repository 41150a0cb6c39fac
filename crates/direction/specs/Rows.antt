-- Worked rows of this crate's definitions. Each holds by computing.
--   DirectionRows   the rows
use Rattle.std.specs.Prelude.{ℕ, ◌≡◌, true, false, [], ◌∷◌}
use Rattle.direction.specs.Direction.{directed}

pub record DirectionRows : Type 0 where
  -- 7 8 9 either way, and an even count
  pub forward : directed {A = ℕ} false (7 ∷ 8 ∷ 9 ∷ []) ≡ 7 ∷ 8 ∷ 9 ∷ []
  pub backward : directed {A = ℕ} true (7 ∷ 8 ∷ 9 ∷ []) ≡ 9 ∷ 8 ∷ 7 ∷ []
  pub even : directed {A = ℕ} true (7 ∷ 8 ∷ []) ≡ 8 ∷ 7 ∷ []
