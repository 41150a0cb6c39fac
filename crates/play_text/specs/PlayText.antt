-- What the program `play` answers, by the bytes f of its file and the bytes t of its text.
--   play_text_judged f t     what is refused: the file, then the text, then a level out of range, then the steps
--   played_text f t         the levels after the steps
--   at_front xs held        xs at the front of what was held
--   PlayedText f t out second r out' second'
--                          the number r is that of f and t; where it is 0 out starts with the levels played, and as
--                          many cells of second are 0; else both are as they were
--   PlayedFrom f m out second r out' second'
--                          the same of every text from which the machine m came, with one line feed more; out and
--                          second have room for every grid
--   shown_levels r levels   what is printed: the levels, or the refusal number alone
--   printed_text f t        the bytes that are printed
--   print_room              the bytes that the longest print may have
--   PrintedFrom f m out second text r out' second' text'
--                          of every text from which the machine m came: text' starts with the r bytes that are
--                          printed, and out' and second' are as PlayedText says
use Rattle.std.specs.Prelude.{ℕ, ◌*◌, ◌≤◌, ◌≡◌, cond, List, [], ◌∷◌, ◌++◌, eqb, ℤ, pos, length, drop, replicate}
use Rattle.numbers.specs.Limits.{most_cells}
use Rattle.numbers.specs.Lists.{any_of}
use Rattle.numbers.specs.Refusal.{Judged, refusal_of, left_in, Answers}
use Rattle.array_spec.specs.Conditions.{bad_level}
use Rattle.recipe_spec.specs.Recipes.{file_judged}
use Rattle.recipe_spec.specs.Player.{played, recipe_steps, steps_judged}
use Rattle.grid_text_spec.specs.Words.{text_words, text_lengths, text_levels, text_judged}
use Rattle.grid_text_spec.specs.Machine.{Machine, machine, start_state, fed}
use Rattle.grid_text_spec.specs.Lines.{line_room, level_lines}

abbrev pub play_text_judged : List ℕ → List ℕ → Judged
play_text_judged f t =
    file_judged f ++ text_judged t ++ (any_of bad_level (text_levels (text_words t)), 3)
    ∷ steps_judged (text_lengths (text_words t)) (recipe_steps f) (text_levels (text_words t))

abbrev pub played_text : List ℕ → List ℕ → List ℤ
played_text f t = played (text_lengths (text_words t)) (recipe_steps f) (text_levels (text_words t))

abbrev pub at_front : List ℤ → List ℤ → List ℤ
at_front xs held = xs ++ drop (length xs) held

pub record PlayedText (f t : List ℕ) (out second : List ℤ) (r : ℕ) (out' second' : List ℤ) : Type 0 where
  pub filled : Answers (play_text_judged f t) (at_front (played_text f t) out) out r out'
  pub cleared : second' ≡ left_in r (at_front (replicate (length (played_text f t)) (pos 0)) second) second

pub record PlayedFrom (f : List ℕ) (m : Machine) (out second : List ℤ) (r : ℕ) (out' second' : List ℤ) : Type 0 where
  pub texts : (t l : List ℕ) (v : List ℤ) → 3 ≤ length l → most_cells ≤ length v → most_cells ≤ length out
      → most_cells ≤ length second → m ≡ fed (machine start_state l v) (t ++ 10 ∷ [])
      → PlayedText f t out second r out' second'

abbrev pub shown_levels : ℕ → List ℤ → List ℤ
shown_levels r levels = cond (eqb r 0) levels (pos r ∷ [])

abbrev pub printed_text : List ℕ → List ℕ → List ℕ
printed_text f t = level_lines (shown_levels (refusal_of (play_text_judged f t)) (played_text f t))

abbrev pub print_room : ℕ
print_room = line_room * most_cells

pub record PrintedFrom (f : List ℕ) (m : Machine) (out second : List ℤ) (text : List ℕ) (r : ℕ)
    (out' second' : List ℤ) (text' : List ℕ) : Type 0 where
  pub texts : (t l : List ℕ) (v : List ℤ) → 3 ≤ length l → most_cells ≤ length v → most_cells ≤ length out
      → most_cells ≤ length second → print_room ≤ length text → m ≡ fed (machine start_state l v) (t ++ 10 ∷ [])
      → (r ≡ length (printed_text f t)) × (text' ≡ printed_text f t ++ drop (length (printed_text f t)) text)
      × PlayedText f t out second (refusal_of (play_text_judged f t)) out' second'
