-- Worked rows of recipes as numbers: document 02's example both ways, and each field at its limits. Each holds by
-- computing.
--   least                    the step of document 02's example, 0 0 2 0 2 0
--   one                      its six numbers
--   number_of count f len     the number that writing the numbers f gets
--   RecipeFieldsRows         the rows
use Rattle.std.specs.Prelude.{ℕ, ◌≡◌, true, false, List, [], ◌∷◌, ◌++◌, map, ℤ, pos, length, take, replicate}
use Rattle.numbers.specs.Refusal.{refusal_of}
use Rattle.numbers.specs.Rows.{minus, wholes}
use Rattle.recipe_spec.specs.declared.Step.{Step}
use Rattle.recipe_spec.specs.Recipes.{no_step, file_of, read_of}
use Rattle.recipe_fields.specs.Fields.{step_fields, recipe_fields, byte_of, signed8_of, signed16_of, step_from}
use Rattle.recipe_fields.specs.Fields.{steps_from, bad_field, bad_fields, fields_judged, numbers_judged}

abbrev pub least : Step
least = record { kind = 0; axis = 0; length = 2; origin = pos 0; border = 2; constant = pos 0 }

abbrev pub one : List ℤ
one = wholes (0 ∷ 0 ∷ 2 ∷ 0 ∷ 2 ∷ 0 ∷ [])

abbrev pub number_of : ℕ → List ℤ → ℕ → ℕ
number_of count f len = refusal_of (numbers_judged count f len)

pub record RecipeFieldsRows : Type 0 where
  -- document 02's step 0 0 2 0 2 0: read from its file as the count, its numbers and zeros, and written back
  pub example : recipe_fields (read_of (file_of 1 (least ∷ []))).count (read_of (file_of 1 (least ∷ []))).steps
      ≡ pos 1 ∷ one ++ replicate 90 (pos 0)
  pub example_steps : steps_from one ≡ least ∷ replicate 15 no_step
  pub example_written : file_of 1 (steps_from one) ≡ 76 ∷ 75 ∷ 83 ∷ 0 ∷ 1 ∷ 1 ∷ 0 ∷ 0 ∷ 2 ∷ 0 ∷ 2 ∷ 0 ∷ 0 ∷ []
  pub example_number : number_of 1 one 13 ≡ 0
  -- a step of which every field is another, both ways; of two steps the second stands six numbers on
  pub fields : step_fields (record { kind = 1; axis = 2; length = 3; origin = minus 4; border = 5; constant = minus 6 })
      ≡ pos 1 ∷ pos 2 ∷ pos 3 ∷ minus 4 ∷ pos 5 ∷ minus 6 ∷ []
  pub second-step : step_from (one ++ pos 1 ∷ pos 2 ∷ pos 3 ∷ minus 4 ∷ pos 5 ∷ minus 6 ∷ []) 6
      ≡ record { kind = 1; axis = 2; length = 3; origin = minus 4; border = 5; constant = minus 6 }
  pub sixteen_steps : length (recipe_fields 16 (replicate 16 least)) ≡ 97
  -- the ends of each field, and past them 0
  pub bytes : map byte_of (minus 1 ∷ pos 0 ∷ pos 255 ∷ pos 256 ∷ []) ≡ 0 ∷ 0 ∷ 255 ∷ 0 ∷ []
  pub origins : map signed8_of (minus 129 ∷ minus 128 ∷ pos 127 ∷ pos 128 ∷ [])
      ≡ pos 0 ∷ minus 128 ∷ pos 127 ∷ pos 0 ∷ []
  pub constants : map signed16_of (minus 32769 ∷ minus 32768 ∷ pos 32767 ∷ pos 32768 ∷ [])
      ≡ pos 0 ∷ minus 32768 ∷ pos 32767 ∷ pos 0 ∷ []
  -- what a kind, an origin, a border and a constant cannot hold
  pub kinds-bad : map (bad_field 0) (minus 1 ∷ pos 0 ∷ pos 255 ∷ pos 256 ∷ []) ≡ true ∷ false ∷ false ∷ true ∷ []
  pub origins_bad : map (bad_field 3) (minus 129 ∷ minus 128 ∷ pos 127 ∷ pos 128 ∷ [])
      ≡ true ∷ false ∷ false ∷ true ∷ []
  pub borders_bad : map (bad_field 4) (minus 1 ∷ pos 255 ∷ pos 256 ∷ []) ≡ true ∷ false ∷ true ∷ []
  pub constants-bad : map (bad_field 5) (minus 32769 ∷ minus 32768 ∷ pos 32767 ∷ pos 32768 ∷ [])
      ≡ true ∷ false ∷ false ∷ true ∷ []
  -- a list of 3 numbers: the others are 0; the last of 96 numbers is looked at, the 97th is not
  pub short : take 1 (steps_from (take 3 one)) ≡ record {
    kind = 0;
    axis = 0;
    length = 2;
    origin = pos 0;
    border = 0;
    constant = pos 0;
  } ∷ []
  pub short_number : number_of 1 (take 3 one) 13 ≡ 0
  pub past : map bad_fields ((replicate 95 (pos 0) ++ pos 32768 ∷ []) ∷ (replicate 96 (pos 0) ++ pos 32768 ∷ []) ∷ [])
      ≡ true ∷ false ∷ []
  -- 100 comes last: after 14 and 15; a number of a step past the count counts too
  pub count_first : number_of 0 (pos 256 ∷ []) 6 ≡ 14
  pub step-first : number_of 1 (pos 3 ∷ pos 256 ∷ []) 13 ≡ 15
  pub unheld : number_of 1 (pos 256 ∷ []) 13 ≡ 100
  pub unheld-past : number_of 1 (one ++ minus 1 ∷ []) 13 ≡ 100
  -- 2 comes after 13, 14 and 15, and only of another length than 97
  pub lent : map (λ n. refusal_of (fields_judged (file_of 1 (least ∷ [])) n)) (96 ∷ 97 ∷ 98 ∷ []) ≡ 2 ∷ 0 ∷ 2 ∷ []
  pub file-first : refusal_of (fields_judged [] 0) ≡ 13
