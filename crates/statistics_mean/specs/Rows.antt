-- Worked rows of this crate's definitions. Each holds by computing.
--   StatisticsMeanRows   the rows
use Rattle.std.specs.Prelude.{◌≡◌, ℕ, [], ◌∷◌, pos}
use Rattle.numbers.specs.Rows.{minus, wholes}
use Rattle.statistics_mean.specs.NearSum.{NearSum}

pub record StatisticsMeanRows : Type 0 where
  -- 3 + 5 and twice 2^30; −4 and 2^30; no level
  pub near_two : NearSum (wholes (3 ∷ 5 ∷ [])) 2147483656
  pub near_below : NearSum (minus 4 ∷ []) 1073741820
  pub near_none : NearSum [] 0
  -- both limits of a near level, and one more on each side, which has no sum
  pub near_limits : NearSum (pos 1073741823 ∷ minus 1073741824 ∷ []) 2147483647
  pub far_above : (sum : ℕ) → NearSum (pos 0 ∷ pos 1073741824 ∷ []) sum → ⊥
  pub far_below : (sum : ℕ) → NearSum (minus 1073741825 ∷ []) sum → ⊥
  -- another number is not the sum
  pub sum_only : (sum : ℕ) → NearSum (wholes (3 ∷ 5 ∷ [])) sum → 2147483656 ≡ sum
