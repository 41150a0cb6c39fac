-- What the machine says of every text, and what an accepted text is.
--   GridTexts   fed in any cut it ends in the same place; its number is that of the words; an accepted text leaves its
--               lengths and its levels, and how many they are; it has a shape that condition 1 accepts and as many
--               levels as cells
use Rattle.std.specs.Prelude.{ℕ, ◌≤◌, ◌≡◌, false, List, [], ◌∷◌, ◌++◌, ℤ, length, drop}
use Rattle.numbers.specs.Limits.{most_cells}
use Rattle.numbers.specs.Refusal.{refusal_of}
use Rattle.array_spec.specs.Conditions.{bad_shape}
use Rattle.array_spec.specs.Grid.{cell_count}
use Rattle.grid_text_spec.specs.Words.{text_words, axis_count, text_lengths, text_levels, text_judged}
use Rattle.grid_text_spec.specs.Machine.{Machine, machine, start_state, fed, finish_of}

pub record GridTexts : Type 0 where
  pub any_cut : (m : Machine) (s t : List ℕ) → fed m (s ++ t) ≡ fed (fed m s) t
  pub number : (l : List ℕ) (v : List ℤ) (t : List ℕ)
      → finish_of (fed (machine start_state l v) t).state ≡ refusal_of (text_judged t)
  -- a line feed after the text ends its last word, and changes no word
  pub closed : (t : List ℕ) → text_words (t ++ 10 ∷ []) ≡ text_words t
  pub lengths : (l : List ℕ) (v : List ℤ) (t : List ℕ) → 3 ≤ length l → most_cells ≤ length v
      → refusal_of (text_judged t) ≡ 0
      → (fed (machine start_state l v) (t ++ 10 ∷ [])).lengths
      ≡ text_lengths (text_words t) ++ drop (axis_count (text_words t)) l
  pub levels : (l : List ℕ) (v : List ℤ) (t : List ℕ) → 3 ≤ length l → most_cells ≤ length v
      → refusal_of (text_judged t) ≡ 0
      → (fed (machine start_state l v) (t ++ 10 ∷ [])).levels
      ≡ text_levels (text_words t) ++ drop (cell_count (text_lengths (text_words t))) v
  pub axes_kept : (l : List ℕ) (v : List ℤ) (t : List ℕ) → 3 ≤ length l → most_cells ≤ length v
      → refusal_of (text_judged t) ≡ 0
      → (fed (machine start_state l v) (t ++ 10 ∷ [])).state.shape.axes ≡ axis_count (text_words t)
  pub cells-kept : (l : List ℕ) (v : List ℤ) (t : List ℕ) → 3 ≤ length l → most_cells ≤ length v
      → refusal_of (text_judged t) ≡ 0
      → (fed (machine start_state l v) (t ++ 10 ∷ [])).state.shape.cells ≡ cell_count (text_lengths (text_words t))
  pub axes : (t : List ℕ) → refusal_of (text_judged t) ≡ 0
      → length (text_lengths (text_words t)) ≡ axis_count (text_words t)
  pub shape : (t : List ℕ) → refusal_of (text_judged t) ≡ 0 → bad_shape (text_lengths (text_words t)) ≡ false
  pub cells : (t : List ℕ) → refusal_of (text_judged t) ≡ 0
      → length (text_levels (text_words t)) ≡ cell_count (text_lengths (text_words t))
