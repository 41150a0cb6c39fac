-- Worked rows of the player: document 02's example, T4, T5 and T6 as recipes, and the order of refusals. Each holds by
-- computing.
--   plain k a n b   a step of kind k along axis a with n cells under border b, origin and constant 0
--   file ss         the file of these steps
--   cells           4 2 7
--   number_on ss     the number of a recipe of these steps on them
--   PlayRows        the rows
use Rattle.std.specs.Prelude.{ℕ, ◌^◌, ◌≡◌, List, [], ◌∷◌, map, ℤ, pos, length}
use Rattle.numbers.specs.Refusal.{refusal_of}
use Rattle.numbers.specs.Rows.{minus, wholes}
use Rattle.recipe_spec.specs.declared.Step.{Step}
use Rattle.recipe_spec.specs.Recipes.{file_of}
use Rattle.recipe_spec.specs.Player.{played, recipe_steps, play_judged}

abbrev pub plain : ℕ → ℕ → ℕ → ℕ → Step
plain k a n b = record { kind = k; axis = a; length = n; origin = pos 0; border = b; constant = pos 0 }

abbrev pub file : List Step → List ℕ
file ss = file_of (length ss) ss

abbrev pub cells : List ℤ
cells = wholes (4 ∷ 2 ∷ 7 ∷ [])

abbrev pub number_on : List Step → ℕ
number_on ss = refusal_of (play_judged (file ss) (3 ∷ []) cells 3 3)

pub record PlayRows : Type 0 where
  -- document 02's example: 4 2 7 under 0 0 2 0 2 0 0
  pub example : played (3 ∷ []) (recipe_steps (file (plain 0 0 2 2 ∷ []))) cells ≡ wholes (4 ∷ 2 ∷ 2 ∷ [])
  -- T4: minimum and maximum of 3 cells of 4 2 7 1 under Reflect
  pub t4 : map (λ k. played (4 ∷ []) (plain k 0 3 3 ∷ []) (wholes (4 ∷ 2 ∷ 7 ∷ 1 ∷ []))) (0 ∷ 1 ∷ [])
      ≡ wholes (2 ∷ 2 ∷ 1 ∷ 1 ∷ []) ∷ wholes (4 ∷ 7 ∷ 7 ∷ 7 ∷ []) ∷ []
  -- T5: the rows 5 3 / 4 9 swept along both axes, in either order, under Constant 0
  pub t5 : played (2 ∷ 2 ∷ []) (plain 0 0 2 0 ∷ plain 0 1 2 0 ∷ []) (wholes (5 ∷ 3 ∷ 4 ∷ 9 ∷ []))
      ≡ wholes (0 ∷ 0 ∷ 0 ∷ 3 ∷ [])
  pub t5-turned : played (2 ∷ 2 ∷ []) (plain 0 1 2 0 ∷ plain 0 0 2 0 ∷ []) (wholes (5 ∷ 3 ∷ 4 ∷ 9 ∷ []))
      ≡ wholes (0 ∷ 0 ∷ 0 ∷ 3 ∷ [])
  -- T6: the mean of 3 cells of −1 −2 −4 under Constant 0, cut toward zero; then the maximum of 2 under Nearest
  pub t6 : played (3 ∷ []) (plain 2 0 3 0 ∷ []) (minus 1 ∷ minus 2 ∷ minus 4 ∷ []) ≡ minus 1 ∷ minus 2 ∷ minus 2 ∷ []
  pub mixed : played (3 ∷ []) (plain 2 0 3 0 ∷ plain 1 0 2 2 ∷ []) (minus 1 ∷ minus 2 ∷ minus 4 ∷ [])
      ≡ minus 1 ∷ minus 1 ∷ minus 2 ∷ []
  -- the first refused step gives the number, its own lowest: 8 of the second step, before 5 of the third
  pub first_step : number_on (plain 0 0 2 2 ∷ plain 0 9 7 1 ∷ plain 0 0 0 2 ∷ []) ≡ 8
  pub lowest : number_on (plain 0 9 0 1 ∷ []) ≡ 5
  -- 5, 8 and 11 of a mean; a mean of five cells of one cell is played, as uniform_filter1d and not uniform_filter does
  pub means : map (λ s. number_on (s ∷ [])) (plain 2 0 66 2 ∷ plain 2 1 3 2 ∷ plain 2 0 7 1 ∷ plain 2 0 65 2 ∷ [])
      ≡ 5 ∷ 8 ∷ 11 ∷ 0 ∷ []
  pub one_cell : refusal_of (play_judged (file (plain 2 0 5 2 ∷ [])) (1 ∷ []) (pos 9 ∷ []) 1 1) ≡ 0
  -- 13 to 15 come first, then 1, 2 (input, output, second grid) and 3, then the steps
  pub file-first : refusal_of (play_judged [] [] [] 0 0)
      ∷ refusal_of (play_judged (file (plain 3 9 0 9 ∷ [])) [] [] 0 0) ∷ []
      ≡ 13 ∷ 15 ∷ []
  pub grid_next : map (λ ns. refusal_of (play_judged (file (plain 0 9 0 1 ∷ [])) ns cells 3 3))
      ([] ∷ (4 ∷ []) ∷ (3 ∷ []) ∷ [])
      ≡ 1 ∷ 2 ∷ 5 ∷ []
  pub lent_next : refusal_of (play_judged (file (plain 0 9 0 1 ∷ [])) (3 ∷ []) cells 2 3)
      ∷ refusal_of (play_judged (file (plain 0 9 0 1 ∷ [])) (3 ∷ []) cells 3 4)
      ∷ refusal_of (play_judged (file (plain 0 9 0 1 ∷ [])) (1 ∷ []) (pos (2 ^ 31) ∷ []) 1 1) ∷ [] ≡ 2 ∷ 2 ∷ 3 ∷ []
