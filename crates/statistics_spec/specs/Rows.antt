-- Worked rows of this crate's definitions. Each holds by computing.
--   limit                the greatest level that is served
--   StatisticsSpecRows   the rows
use Rattle.std.specs.Prelude.{ℕ, ◌≡◌, true, false, [], ◌∷◌, map, pos, replicate}
use Rattle.std.specs.Int.Signed.{le_z}
use Rattle.numbers.specs.Rows.{minus, wholes}
use Rattle.statistics_spec.specs.Sorting.{sorted, at_most, least_above}
use Rattle.statistics_spec.specs.Statistics.{minimum_of, maximum_of, mean_of, median_of, unserved, answered}

abbrev pub limit : ℕ
limit = 2147483647

pub record StatisticsSpecRows : Type 0 where
  -- the least and the greatest: first, inside, last; of one level; of none
  pub extreme : map minimum_of ((minus 7 ∷ pos 3 ∷ []) ∷ wholes (4 ∷ 2 ∷ 7 ∷ []) ∷ wholes (4 ∷ 2 ∷ 7 ∷ 1 ∷ [])
      ∷ wholes (5 ∷ []) ∷ [] ∷ []) ≡ minus 7 ∷ pos 2 ∷ pos 1 ∷ pos 5 ∷ pos 0 ∷ []
  pub greatest : map maximum_of ((minus 3 ∷ minus 7 ∷ []) ∷ wholes (4 ∷ 2 ∷ 7 ∷ 1 ∷ []) ∷ wholes (1 ∷ 2 ∷ [])
      ∷ wholes (5 ∷ []) ∷ [] ∷ []) ≡ minus 3 ∷ pos 7 ∷ pos 2 ∷ pos 5 ∷ pos 0 ∷ []
  -- the mean is cut toward zero, above 0 and below it
  pub mean_above : mean_of (wholes (1 ∷ 2 ∷ [])) ≡ pos 1
  pub mean_below : mean_of (minus 1 ∷ minus 2 ∷ []) ≡ minus 1
  pub mean_three : mean_of (minus 1 ∷ minus 2 ∷ minus 4 ∷ []) ≡ minus 2
  pub mean_limits : mean_of (pos limit ∷ pos limit ∷ []) ∷ mean_of (minus limit ∷ minus limit ∷ minus limit ∷ [])
      ∷ mean_of (minus limit ∷ pos limit ∷ []) ∷ [] ≡ pos limit ∷ minus limit ∷ pos 0 ∷ []
  pub mean_few : mean_of (minus 5 ∷ []) ∷ mean_of [] ∷ [] ≡ minus 5 ∷ pos 0 ∷ []
  -- T10: the median of an even number is cut toward zero
  pub t10_above : median_of (wholes (1 ∷ 2 ∷ 4 ∷ 9 ∷ [])) ≡ pos 3
  pub t10_below : median_of (minus 1 ∷ minus 2 ∷ []) ≡ minus 1
  -- whatever the order of the levels, also repeated ones
  pub median_even : median_of (wholes (9 ∷ 1 ∷ 4 ∷ 2 ∷ [])) ∷ median_of (wholes (5 ∷ 1 ∷ 5 ∷ 5 ∷ []))
      ∷ median_of (wholes (7 ∷ 7 ∷ [])) ∷ [] ≡ pos 3 ∷ pos 5 ∷ pos 7 ∷ []
  pub median_odd : median_of (wholes (9 ∷ 1 ∷ 4 ∷ [])) ∷ median_of (pos 2 ∷ minus 5 ∷ minus 5 ∷ [])
      ∷ median_of (wholes (3 ∷ 1 ∷ 3 ∷ 8 ∷ 1 ∷ [])) ∷ [] ≡ pos 4 ∷ minus 5 ∷ pos 3 ∷ []
  pub median_limits : median_of (pos limit ∷ pos limit ∷ []) ∷ median_of (minus limit ∷ minus limit ∷ pos limit ∷ [])
      ∷ median_of (pos limit ∷ minus limit ∷ []) ∷ [] ≡ pos limit ∷ minus limit ∷ pos 0 ∷ []
  pub median_few : median_of (minus 5 ∷ []) ∷ median_of [] ∷ [] ≡ minus 5 ∷ pos 0 ∷ []
  -- sorting, and the count that a rank goes by
  pub rising : sorted le_z (pos 3 ∷ minus 1 ∷ pos 2 ∷ minus 1 ∷ []) ≡ minus 1 ∷ minus 1 ∷ pos 2 ∷ pos 3 ∷ []
  pub counted : map (λ z. at_most le_z z (wholes (2 ∷ 9 ∷ 1 ∷ 2 ∷ []))) (wholes (0 ∷ 2 ∷ 9 ∷ [])) ≡ 0 ∷ 3 ∷ 4 ∷ []
  -- the least level above 2: not one at most 2, and the given level where there is none
  pub above_two : map (least_above le_z (pos 2) (pos 9)) (wholes (5 ∷ 2 ∷ 3 ∷ 1 ∷ []) ∷ wholes (2 ∷ 1 ∷ []) ∷ [])
      ≡ pos 3 ∷ pos 9 ∷ []
  -- both limits of a level and the most cells are served, one more is not
  pub levels_served : map unserved ((pos limit ∷ minus limit ∷ []) ∷ (pos 0 ∷ pos 2147483648 ∷ [])
      ∷ (minus 2147483648 ∷ pos 0 ∷ []) ∷ [] ∷ []) ≡ false ∷ true ∷ true ∷ false ∷ []
  pub cells_served : map (λ n. unserved (replicate n (pos 1))) (1024 ∷ 1025 ∷ []) ≡ false ∷ true ∷ []
  -- 0 where the line is not served
  pub answers : answered mean_of (wholes (3 ∷ 5 ∷ [])) ∷ answered mean_of (pos 2147483648 ∷ [])
      ∷ answered median_of (wholes (3 ∷ 5 ∷ [])) ∷ answered median_of (minus 2147483648 ∷ minus 3 ∷ []) ∷ []
      ≡ pos 4 ∷ pos 0 ∷ pos 4 ∷ pos 0 ∷ []
  pub answers_long : map (λ n. answered mean_of (replicate n (pos 1))) (1024 ∷ 1025 ∷ []) ≡ pos 1 ∷ pos 0 ∷ []
