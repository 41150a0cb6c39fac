-- Reading the text of a grid byte by byte.
-- Numbers stop at a cap, so that every one fits and no test of them changes:
--   digit_cap             digits of a word: 19
--   size_cap              the size of a word: 10^18
--   word_cap              words: 9,000
--   length_cap            a length: 1,025
--   cell_cap              the product of the lengths: 8,193
--   capped n             n, at most size_cap
-- A word:
--   empty_word            a word of which no byte was read
--   is_empty w            whether w is one
--   starts_minus w x      whether the byte x is the minus before a word
--   minus_word w          w after its minus
--   longer_word w x       w after a byte that is not its minus
--   next_byte w x         w after one byte more
--   broken_word w         no number
--   wrong_word w          no number, or one of over 18 digits
--   out_word lo hi w      a number outside lo..hi
--   stored_level w        the level that w is
-- The shape:
--   one_more k            one word more
--   axes_after w          the axis count after the word of the count
--   cells_after cells w   the product after the word of a length
--   count_end s w         the shape after the word of the count
--   length_end s w        the shape after the word of a length
--   level_end s w         the shape after the word of a level
--   word_end s w          the one of these whose turn it is
--   lengths_after s w l   the lengths after that word
--   levels_after s w l    the levels after that word
-- Bytes:
--   start_state           nothing was read
--   state_after s x       the state after one byte
--   ends_word s x         whether the byte ends a word
--   Machine              the state, the lengths and the levels; machine s l v is one
--   byte_fed m x          the machine after one byte
--   fed m t              the machine after the bytes t
-- The end:
--   large_shape s         all lengths were read, and their product is over 8,192
--   shape_judged s        the conditions of a text that ends here, after a word's end
--   finish_of s           the number of a text that ends here, in a word or not
use Rattle.std.specs.Prelude.{ℕ, ◌+◌, ◌-◌, ◌*◌, ◌^◌, min, Bool, true, false, not, ◌&&◌, ◌||◌, cond, List, [], ◌∷◌, ltb, leb, eqb, ℤ, pos, neg_ℤ, set}
use Rattle.numbers.specs.Limits.{longest_axis, most_cells}
use Rattle.numbers.specs.Ranges.{outside}
use Rattle.numbers.specs.Refusal.{Judged, refusal_of}
use Rattle.text_spec.specs.Reading.{digit_of, no_digit}
use Rattle.grid_text_spec.specs.declared.TextWord.{TextWord}
use Rattle.grid_text_spec.specs.declared.TextShape.{TextShape}
use Rattle.grid_text_spec.specs.declared.TextState.{TextState}
use Rattle.grid_text_spec.specs.Words.{gap_byte, most_digits}

-- ---- caps
abbrev pub digit_cap : ℕ
digit_cap = most_digits + 1

abbrev pub size_cap : ℕ
size_cap = 10 ^ most_digits

abbrev pub word_cap : ℕ
word_cap = 9000

abbrev pub length_cap : ℕ
length_cap = longest_axis + 1

abbrev pub cell_cap : ℕ
cell_cap = most_cells + 1

abbrev pub capped : ℕ → ℕ
capped n = min n size_cap

-- ---- a word
abbrev pub empty_word : TextWord
empty_word = record { minus = false; odd = false; digits = 0; size = 0 }

abbrev pub is_empty : TextWord → Bool
is_empty w = not w.minus && eqb w.digits 0

abbrev pub starts_minus : TextWord → ℕ → Bool
starts_minus w x = eqb x 45 && is_empty w

abbrev pub minus_word : TextWord → TextWord
minus_word w = record { minus = true; odd = w.odd; digits = w.digits; size = w.size }

abbrev pub longer_word : TextWord → ℕ → TextWord
longer_word w x = record {
  minus = w.minus;
  odd = w.odd || no_digit 10 x;
  digits = min (w.digits + 1) digit_cap;
  size = capped (capped w.size * 10 + digit_of x);
}

unfoldable pub next_byte : TextWord → ℕ → TextWord
next_byte w x = cond (starts_minus w x) (minus_word w) (longer_word w x)

unfoldable pub broken_word : TextWord → Bool
broken_word w = w.odd || eqb w.digits 0

unfoldable pub wrong_word : TextWord → Bool
wrong_word w = broken_word w || ltb most_digits w.digits

unfoldable pub out_word : ℕ → ℕ → TextWord → Bool
out_word lo hi w = not (broken_word w) && (w.minus || outside lo hi w.size)

abbrev pub stored_level : TextWord → ℤ
stored_level w = cond w.minus (neg_ℤ (pos (capped w.size))) (pos (capped w.size))

-- ---- the shape
abbrev pub one_more : ℕ → ℕ
one_more k = min (k + 1) word_cap

unfoldable pub axes_after : TextWord → ℕ
axes_after w = cond (broken_word w || out_word 1 3 w) 0 (min w.size 3)

unfoldable pub cells_after : ℕ → TextWord → ℕ
cells_after cells w = cond (broken_word w) 0 (min (cells * min w.size length_cap) cell_cap)

abbrev pub count_end : TextShape → TextWord → TextShape
count_end s w = record {
  words = one_more s.words;
  axes = axes_after w;
  cells = s.cells;
  refused = s.refused || out_word 1 3 w;
  faulty = s.faulty || wrong_word w;
}

abbrev pub length_end : TextShape → TextWord → TextShape
length_end s w = record {
  words = one_more s.words;
  axes = s.axes;
  cells = cells_after s.cells w;
  refused = s.refused || out_word 1 longest_axis w;
  faulty = s.faulty || wrong_word w;
}

abbrev pub level_end : TextShape → TextWord → TextShape
level_end s w = record {
  words = one_more s.words;
  axes = s.axes;
  cells = s.cells;
  refused = s.refused;
  faulty = s.faulty || wrong_word w;
}

unfoldable pub word_end : TextShape → TextWord → TextShape
word_end s w =
    cond (eqb s.words 0) (count_end s w) (cond (leb s.words s.axes) (length_end s w) (level_end s w))

-- ---- what is lent
unfoldable pub lengths_after : TextShape → TextWord → List ℕ → List ℕ
lengths_after s w l = cond (eqb s.words 0 || ltb s.axes s.words) l (set l (s.words - 1) w.size)

unfoldable pub levels_after : TextShape → TextWord → List ℤ → List ℤ
levels_after s w l = cond (leb s.words s.axes) l (set l (s.words - 1 - s.axes) (stored_level w))

-- ---- a byte, and bytes
abbrev pub start_state : TextState
start_state = record {
  word = empty_word;
  shape = record { words = 0; axes = 0; cells = 1; refused = false; faulty = false };
}

unfoldable pub state_after : TextState → ℕ → TextState
state_after s x =
    cond (gap_byte x)
    (cond (is_empty s.word) s (record { word = empty_word; shape = word_end s.shape s.word }))
    (record { word = next_byte s.word x; shape = s.shape })

abbrev pub ends_word : TextState → ℕ → Bool
ends_word s x = gap_byte x && not (is_empty s.word)

pub record Machine : Type 0 where
  pub state : TextState
  pub lengths : List ℕ
  pub levels : List ℤ

abbrev pub machine : TextState → List ℕ → List ℤ → Machine
machine s l v = record { state = s; lengths = l; levels = v }

unfoldable pub byte_fed : Machine → ℕ → Machine
byte_fed m x =
    machine (state_after m.state x)
    (cond (ends_word m.state x) (lengths_after m.state.shape m.state.word m.lengths) m.lengths)
    (cond (ends_word m.state x) (levels_after m.state.shape m.state.word m.levels) m.levels)

abbrev pub fed : Machine → List ℕ → Machine
fed m [] = m
fed m (x ∷ t) = fed (byte_fed m x) t

-- ---- the end of the text
unfoldable pub large_shape : TextShape → Bool
large_shape s = ltb s.axes s.words && ltb most_cells s.cells

abbrev pub shape_judged : TextShape → Judged
shape_judged s =
    (s.refused || large_shape s, 1)
    ∷ (s.faulty || not (eqb s.words (1 + s.axes + s.cells)), 2)
    ∷ []

unfoldable pub finish_of : TextState → ℕ
finish_of s = refusal_of (shape_judged (cond (is_empty s.word) s.shape (word_end s.shape s.word)))
