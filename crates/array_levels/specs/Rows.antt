-- Worked rows of this crate's definitions. Each holds by computing.
--   ArrayLevelsRows   the rows
use Rattle.std.specs.Prelude.{◌≡◌, ◌+◌, ◌-◌, ◌^◌, true, false, [], ◌∷◌, map, pos}
use Rattle.numbers.specs.Rows.{minus}
use Rattle.array_levels.specs.Near.{is_far, lift_of}

pub record ArrayLevelsRows : Type 0 where
  pub fars : map is_far (minus (2 ^ 30 + 1) ∷ minus (2 ^ 30) ∷ pos 0 ∷ pos (2 ^ 30 - 1) ∷ pos (2 ^ 30) ∷ [])
      ≡ true ∷ false ∷ false ∷ false ∷ true ∷ []
  -- the least level that is not far becomes 0, the one below it wraps; the greatest becomes 2^31 − 1
  pub lifts : map lift_of (minus (2 ^ 30 + 1) ∷ minus (2 ^ 30) ∷ minus 1 ∷ pos 0 ∷ pos (2 ^ 30 - 1) ∷ pos (2 ^ 30) ∷ [])
      ≡ 18446744073709551615 ∷ 0 ∷ 1073741823 ∷ 1073741824 ∷ 2147483647 ∷ 2147483648 ∷ []
