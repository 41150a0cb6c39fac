-- The numbers that are read from a file are the numbers of that file.
--   Held s        each field of s is a number that it holds, as of every step that is handed over
--   FieldsBack    of every recipe of such steps, and of every file that the reader accepts: the numbers behind the
--                 count, written again
use Rattle.std.specs.Prelude.{ℕ, ◌<◌, ◌≡◌, false, List, length, drop}
use Rattle.std.specs.Int.{w8, w16}
use Rattle.std.proofs.Common.{SFits}
use Rattle.numbers.specs.Lists.{Every}
use Rattle.numbers.specs.Refusal.{refusal_of}
use Rattle.recipe_spec.specs.declared.Step.{Step}
use Rattle.recipe_spec.specs.Recipes.{file_of, file_judged, read_of}
use Rattle.recipe_fields.specs.Fields.{recipe_fields, steps_from, bad_fields, numbers_judged}

abbrev pub Held : Step → Type 0
Held s =
    (s.kind < 256) × (s.axis < 256) × (s.length < 256) × SFits w8 s.origin × (s.border < 256)
    × SFits w16 s.constant

pub record FieldsBack : Type 0 where
  -- a recipe's numbers behind its count give its steps back, and each is one that its field holds
  pub steps_back : (count : ℕ) (steps : List Step) → length steps ≡ 16 → Every Held steps
      → steps_from (drop 1 (recipe_fields count steps)) ≡ steps
  pub none-bad : (count : ℕ) (steps : List Step) → length steps ≡ 16 → Every Held steps
      → bad_fields (drop 1 (recipe_fields count steps)) ≡ false
  -- writing the numbers that were read is accepted, and gives the same bytes
  pub read-accepted : (f : List ℕ) → Every (λ b. b < 256) f → refusal_of (file_judged f) ≡ 0
      → refusal_of
      (numbers_judged (read_of f).count (drop 1 (recipe_fields (read_of f).count (read_of f).steps)) (length f))
      ≡ 0
  pub read_written : (f : List ℕ) → Every (λ b. b < 256) f → refusal_of (file_judged f) ≡ 0
      → file_of (read_of f).count (steps_from (drop 1 (recipe_fields (read_of f).count (read_of f).steps))) ≡ f
