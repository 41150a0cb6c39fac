-- A file of any size by its first 119 bytes, which are all that the program reads.
--   longest_file   the bytes of the longest file that is accepted: 6 and 16 steps of 7
--   FirstBytes    one byte more than that decides what the reader hands over, and what the program answers
use Rattle.std.specs.Prelude.{ℕ, ◌+◌, ◌≡◌, List, take}
use Rattle.numbers.specs.Refusal.{refusal_of}
use Rattle.recipe_spec.specs.Recipes.{read_of}
use Rattle.play_text.specs.PlayText.{play_text_judged, played_text}

abbrev pub longest_file : ℕ
longest_file = 118

pub record FirstBytes : Type 0 where
  pub same_recipe : (f : List ℕ) → read_of (take (longest_file + 1) f) ≡ read_of f
  pub same_number : (f t : List ℕ) → refusal_of (play_text_judged (take (longest_file + 1) f) t)
      ≡ refusal_of (play_text_judged f t)
  pub same_levels : (f t : List ℕ) → played_text (take (longest_file + 1) f) t ≡ played_text f t
