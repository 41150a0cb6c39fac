-- The text of a grid by its words: the axis count, the lengths and the levels, by their positions.
--   gap_byte x            whether a byte stands between words: a space or a line feed
--   on_first w ps         bytes before the first piece
--   pieces t             the text cut at every gap, with the empty pieces
--   filled_pieces ps      the pieces that are not empty
--   text_words t          those of a text
--   most_digits           the digits that a number may have
--   minus_first w         whether a word starts with a minus
--   body_of w             what follows the minus, or the whole word
--   not_number w          whether that is empty or has a byte that is no digit
--   word_size w           its value, whatever its digits
--   word_value w          the same with its sign
--   overlong w           whether a word has over 18 digits
--   bad_word w            no number, or one of over 18 digits
--   word_outside lo hi w  a number outside lo..hi
--   count_word ws         the first word
--   axis_count ws         the axis count; 0 where the first word is no number or is refused
--   length_words ws       the words in the lengths' places
--   level_words ws        the words after them
--   text_lengths ws       the lengths
--   text_levels ws        the levels
--   bad_cell_count ws      every length is there and a number, and their product is over 8,192
--   bad_text_shape ws      1: the count, a length or the product of the lengths is refused
--   bad_text_words ws      2: a word that is no number or overlong, too few words or too many
--   words_judged ws       1 before 2
--   text_judged t         the same of a text's words
use Rattle.std.specs.Prelude.{ℕ, ◌+◌, Bool, not, ◌&&◌, ◌||◌, cond, List, [], ◌∷◌, ◌++◌, map, ltb, eqb, ℤ, pos, neg_ℤ, length, get_or, take, drop}
use Rattle.numbers.specs.Limits.{longest_axis, most_cells}
use Rattle.numbers.specs.Lists.{any_of}
use Rattle.numbers.specs.Ranges.{outside_z}
use Rattle.numbers.specs.Refusal.{Judged}
use Rattle.array_spec.specs.Grid.{cell_count}
use Rattle.text_spec.specs.Reading.{no_digit, value_of}

-- ---- words
abbrev pub gap_byte : ℕ → Bool
gap_byte x = eqb x 32 || eqb x 10

abbrev pub on_first : List ℕ → List (List ℕ) → List (List ℕ)
on_first w [] = w ∷ []
on_first w (p ∷ ps) = (w ++ p) ∷ ps

abbrev pub pieces : List ℕ → List (List ℕ)
pieces [] = [] ∷ []
pieces (x ∷ t) = cond (gap_byte x) ([] ∷ pieces t) (on_first (x ∷ []) (pieces t))

abbrev pub filled_pieces : List (List ℕ) → List (List ℕ)
filled_pieces [] = []
filled_pieces ([] ∷ ps) = filled_pieces ps
filled_pieces ((x ∷ w) ∷ ps) = (x ∷ w) ∷ filled_pieces ps

abbrev pub text_words : List ℕ → List (List ℕ)
text_words t = filled_pieces (pieces t)

-- ---- numbers
abbrev pub most_digits : ℕ
most_digits = 18

abbrev pub minus_first : List ℕ → Bool
minus_first w = eqb (get_or w 0 0) 45

abbrev pub body_of : List ℕ → List ℕ
body_of w = cond (minus_first w) (drop 1 w) w

unfoldable pub not_number : List ℕ → Bool
not_number w = any_of (no_digit 10) (body_of w) || eqb (length (body_of w)) 0

abbrev pub word_size : List ℕ → ℕ
word_size w = value_of 10 0 (body_of w)

abbrev pub word_value : List ℕ → ℤ
word_value w = cond (minus_first w) (neg_ℤ (pos (word_size w))) (pos (word_size w))

abbrev pub overlong : List ℕ → Bool
overlong w = ltb most_digits (length (body_of w))

unfoldable pub bad_word : List ℕ → Bool
bad_word w = not_number w || overlong w

unfoldable pub word_outside : ℕ → ℕ → List ℕ → Bool
word_outside lo hi w = not (not_number w) && outside_z (pos lo) (pos hi) (word_value w)

-- ---- the text
abbrev pub count_word : List (List ℕ) → List ℕ
count_word ws = get_or ws 0 []

unfoldable pub axis_count : List (List ℕ) → ℕ
axis_count ws = cond (not_number (count_word ws) || word_outside 1 3 (count_word ws)) 0 (word_size (count_word ws))

abbrev pub length_words : List (List ℕ) → List (List ℕ)
length_words ws = take (axis_count ws) (drop 1 ws)

abbrev pub level_words : List (List ℕ) → List (List ℕ)
level_words ws = drop (axis_count ws) (drop 1 ws)

abbrev pub text_lengths : List (List ℕ) → List ℕ
text_lengths ws = map word_size (length_words ws)

abbrev pub text_levels : List (List ℕ) → List ℤ
text_levels ws = map word_value (level_words ws)

abbrev pub bad_cell_count : List (List ℕ) → Bool
bad_cell_count ws =
    ltb (axis_count ws) (length ws) && not (any_of not_number (length_words ws))
    && ltb most_cells (cell_count (text_lengths ws))

abbrev pub bad_text_shape : List (List ℕ) → Bool
bad_text_shape ws =
    word_outside 1 3 (count_word ws) || any_of (word_outside 1 longest_axis) (length_words ws) || bad_cell_count ws

abbrev pub bad_text_words : List (List ℕ) → Bool
bad_text_words ws =
    any_of bad_word ws || not (eqb (length ws) (1 + axis_count ws + cell_count (text_lengths ws)))

abbrev pub words_judged : List (List ℕ) → Judged
words_judged ws = (bad_text_shape ws, 1) ∷ (bad_text_words ws, 2) ∷ []

abbrev pub text_judged : List ℕ → Judged
text_judged t = words_judged (text_words t)
