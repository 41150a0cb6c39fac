-- Worked rows of the program's answers. Each holds by computing.
--   plain k a n b   a step of kind k along axis a with n cells under border b, origin and constant 0
--   file ss         the file of these steps
--   least           the file of document 02's example: the one step 0 0 2 0 2 0 0
--   number_for f s   the number of a file and a text
--   PlayTextRows    the rows
use Rattle.std.specs.Prelude.{ℕ, ◌≡◌, List, [], ◌∷◌, map, pos, length}
use Prim.Native.String.{String}
use Rattle.numbers.specs.Refusal.{refusal_of}
use Rattle.numbers.specs.Rows.{wholes}
use Rattle.words.specs.Words.{bytes_of}
use Rattle.recipe_spec.specs.declared.Step.{Step}
use Rattle.recipe_spec.specs.Recipes.{file_of}
use Rattle.play_text.specs.PlayText.{play_text_judged, played_text, at_front, shown_levels, printed_text}

abbrev pub plain : ℕ → ℕ → ℕ → ℕ → Step
plain k a n b = record { kind = k; axis = a; length = n; origin = pos 0; border = b; constant = pos 0 }

abbrev pub file : List Step → List ℕ
file ss = file_of (length ss) ss

abbrev pub least : List ℕ
least = file (plain 0 0 2 2 ∷ [])

abbrev pub number_for : List ℕ → String → ℕ
number_for f s = refusal_of (play_text_judged f (bytes_of s))

pub record PlayTextRows : Type 0 where
  -- document 02's example, and the same text over two steps
  pub example : played_text least (bytes_of "1 3 4 2 7") ≡ wholes (4 ∷ 2 ∷ 2 ∷ [])
  pub two_steps : played_text (file (plain 0 0 2 2 ∷ plain 1 0 2 2 ∷ [])) (bytes_of "1 3\n4 2 7\n")
      ≡ wholes (4 ∷ 4 ∷ 2 ∷ [])
  pub accepted : map (number_for least) ("1 3 4 2 7" ∷ "2 2 1 -5 5\n" ∷ []) ≡ 0 ∷ 0 ∷ []
  -- the file first, whatever the text is
  pub file-first : map (number_for []) ("1 3 4 2 7" ∷ "9" ∷ "" ∷ []) ≡ 13 ∷ 13 ∷ 13 ∷ []
  pub step-first : number_for (file (plain 3 0 2 2 ∷ [])) "9" ≡ 15
  -- then the text: 1 before 2, and both before a level and a step
  pub text_next : map (number_for (file (plain 0 9 2 2 ∷ []))) ("9 x" ∷ "1 2 2147483648" ∷ []) ≡ 1 ∷ 2 ∷ []
  -- then a level out of range, then the steps
  pub level-next : map (number_for (file (plain 0 9 2 2 ∷ []))) ("1 1 2147483648" ∷ "1 1 -2147483647" ∷ []) ≡ 3 ∷ 8 ∷ []
  pub second-step : number_for (file (plain 0 0 2 2 ∷ plain 0 0 66 2 ∷ [])) "1 3 4 2 7" ≡ 5
  -- levels at the front of what was held; what is printed
  pub front : at_front (wholes (4 ∷ 2 ∷ [])) (wholes (9 ∷ 8 ∷ 7 ∷ [])) ≡ wholes (4 ∷ 2 ∷ 7 ∷ [])
  pub shown : map (λ r. shown_levels r (wholes (4 ∷ 2 ∷ []))) (0 ∷ 13 ∷ [])
      ≡ wholes (4 ∷ 2 ∷ []) ∷ wholes (13 ∷ []) ∷ []
  pub printed : map (λ f. printed_text f (bytes_of "1 3 4 2 7")) (least ∷ [] ∷ [])
      ≡ bytes_of "4\n2\n2\n" ∷ bytes_of "13\n" ∷ []
