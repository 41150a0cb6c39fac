-- Worked rows of recipe files: document 02's example, and each number at its limits. Each holds by computing.
--   mark l           LKS, version 1, and the bytes l
--   step k b o c     a step of kind k, border b, origin o and constant c on axis 7 with length 9
--   file_number f     the number that a file gets
--   FileRows         the rows
use Rattle.std.specs.Prelude.{ℕ, ◌≡◌, true, false, List, [], ◌∷◌, ◌++◌, map, ℤ, pos, replicate}
use Rattle.numbers.specs.Refusal.{refusal_of}
use Rattle.numbers.specs.Rows.{minus}
use Rattle.recipe_spec.specs.declared.Step.{Step}
use Rattle.recipe_spec.specs.Recipes.{no_step, step_bytes, file_of, step_at, bad_step, recipe_judged, file_judged, read_of}

abbrev pub mark : List ℕ → List ℕ
mark l = 76 ∷ 75 ∷ 83 ∷ 0 ∷ 1 ∷ l

abbrev pub step : ℕ → ℕ → ℤ → ℤ → Step
step k b o c = record { kind = k; axis = 7; length = 9; origin = o; border = b; constant = c }

abbrev pub file_number : List ℕ → ℕ
file_number f = refusal_of (file_judged f)

pub record FileRows : Type 0 where
  -- document 02's step 0 0 2 0 2 0 0: the minimum of 2 cells under Nearest, written and read
  pub example : file_of 1 (record { kind = 0; axis = 0; length = 2; origin = pos 0; border = 2; constant = pos 0 } ∷ [])
      ≡ mark (1 ∷ 0 ∷ 0 ∷ 2 ∷ 0 ∷ 2 ∷ 0 ∷ 0 ∷ [])
  pub example_read : read_of (mark (1 ∷ 0 ∷ 0 ∷ 2 ∷ 0 ∷ 2 ∷ 0 ∷ 0 ∷ [])) ≡ record {
    number = 0;
    count = 1;
    steps = record { kind = 0; axis = 0; length = 2; origin = pos 0; border = 2; constant = pos 0 }
        ∷ replicate 15 no_step;
  }
  -- −1 in a byte and −2 in two; −128, 127, −32,768 and 32,767
  pub signed : step_bytes (step 1 0 (minus 1) (minus 2)) ≡ 1 ∷ 7 ∷ 9 ∷ 255 ∷ 0 ∷ 255 ∷ 254 ∷ []
  pub least : step_bytes (step 0 0 (minus 128) (minus 32768)) ≡ 0 ∷ 7 ∷ 9 ∷ 128 ∷ 0 ∷ 128 ∷ 0 ∷ []
  pub greatest : step_bytes (step 0 0 (pos 127) (pos 32767)) ≡ 0 ∷ 7 ∷ 9 ∷ 127 ∷ 0 ∷ 127 ∷ 255 ∷ []
  pub signed_read : step_at (1 ∷ 7 ∷ 9 ∷ 128 ∷ 0 ∷ 128 ∷ 0 ∷ []) 0 ∷ step_at (1 ∷ 7 ∷ 9 ∷ 127 ∷ 0 ∷ 127 ∷ 255 ∷ []) 0
      ∷ [] ≡ step 1 0 (minus 128) (minus 32768) ∷ step 1 0 (pos 127) (pos 32767) ∷ []
  -- two steps, one after the other; the second alone would be in the first's place
  pub two : file_of 2 (step 0 0 (pos 0) (pos 1) ∷ step 1 4 (pos 2) (pos 0) ∷ [])
      ≡ mark (2 ∷ 0 ∷ 7 ∷ 9 ∷ 0 ∷ 0 ∷ 0 ∷ 1 ∷ 1 ∷ 7 ∷ 9 ∷ 2 ∷ 4 ∷ 0 ∷ 0 ∷ [])
  -- 13: nothing, 5 bytes, another mark, versions 2 and 256
  pub marks : map file_number ([] ∷ mark [] ∷ (76 ∷ 75 ∷ 84 ∷ 0 ∷ 1 ∷ 0 ∷ []) ∷ (76 ∷ 75 ∷ 83 ∷ 0 ∷ 2 ∷ 0 ∷ [])
      ∷ (76 ∷ 75 ∷ 83 ∷ 1 ∷ 0 ∷ 0 ∷ []) ∷ []) ≡ 13 ∷ 13 ∷ 13 ∷ 13 ∷ 13 ∷ []
  -- 14: counts of 0 and 17; the smallest file a byte short and a byte long, the longest at 118 bytes and at 119
  pub counts : map file_number (mark (0 ∷ []) ∷ mark (17 ∷ replicate 119 0) ∷ []) ≡ 14 ∷ 14 ∷ []
  pub lengths : map (λ n. file_number (mark (1 ∷ replicate n 0))) (6 ∷ 7 ∷ 8 ∷ []) ≡ 14 ∷ 0 ∷ 14 ∷ []
  pub longest : map (λ n. file_number (mark (16 ∷ replicate n 0))) (111 ∷ 112 ∷ 113 ∷ []) ≡ 14 ∷ 0 ∷ 14 ∷ []
  -- 15: kinds 2 and 3, borders 4 and 5, a constant under Mirror and under Constant, an origin of a mean and of a
  -- maximum
  pub kinds : map (λ k. bad_step (step k 0 (pos 0) (pos 0))) (2 ∷ 3 ∷ 255 ∷ []) ≡ false ∷ true ∷ true ∷ []
  pub borders : map (λ b. bad_step (step 0 b (pos 0) (pos 0))) (4 ∷ 5 ∷ 255 ∷ []) ≡ false ∷ true ∷ true ∷ []
  pub constants : map (λ b. bad_step (step 0 b (pos 0) (minus 1))) (0 ∷ 1 ∷ 4 ∷ []) ≡ false ∷ true ∷ true ∷ []
  pub origins : map (λ k. bad_step (step k 0 (minus 1) (pos 0))) (1 ∷ 2 ∷ []) ≡ false ∷ true ∷ []
  -- of any step, in a file: the last of two; 14 before 15
  pub any_step : file_number (mark (2 ∷ replicate 7 0 ++ (3 ∷ replicate 6 0))) ≡ 15
  pub count_first : file_number (mark (2 ∷ 3 ∷ replicate 6 0)) ≡ 14
  -- the writer does not look past its count, and judges the lent length by it
  pub past : refusal_of (recipe_judged 1 (no_step ∷ step 9 9 (pos 1) (pos 1) ∷ []) 13) ≡ 0
  pub lent : map (recipe_judged 1 (no_step ∷ [])) (12 ∷ 13 ∷ []) ≡ ((true, 14) ∷ (false, 15) ∷ [])
      ∷ ((false, 14) ∷ (false, 15) ∷ []) ∷ []
  -- a refused file hands over nothing
  pub nothing : read_of (mark (2 ∷ replicate 7 0 ++ (3 ∷ replicate 6 0)))
      ≡ record { number = 15; count = 0; steps = replicate 16 no_step }
