-- Worked rows of words in tables.
--   WordsRows   the rows
use Rattle.std.specs.Prelude.{◌≡◌, [], ◌∷◌, Some, None}
use Rattle.words.specs.Words.{bytes_of, word_list, words_of, rests_of, lines_of, place_in}

pub record WordsRows : Type 0 where
  -- a space ends a word; what has none behind it is no word
  pub words : words_of (bytes_of "nearest wrap ") ≡ word_list ("nearest" ∷ "wrap" ∷ [])
  pub no_space_behind : words_of (bytes_of "nearest wrap") ≡ word_list ("nearest" ∷ [])
  pub nothing : words_of [] ≡ []
  -- lines of a word and what stands behind it
  pub line_words : words_of (bytes_of "pad ab\nhelp \nsobel c\n") ≡ word_list ("pad" ∷ "help" ∷ "sobel" ∷ [])
  pub line_rests : rests_of (bytes_of "pad ab\nhelp \nsobel c\n") ≡ word_list ("ab" ∷ "" ∷ "c" ∷ [])
  pub lines : lines_of (bytes_of "\na b\nc\nd") ≡ word_list ("" ∷ "a b" ∷ "c" ∷ [])
  -- a word's place; its beginning, a longer one and nothing are no word
  pub first : place_in (word_list ("nearest" ∷ "wrap" ∷ [])) (bytes_of "nearest") ≡ Some 0
  pub second : place_in (word_list ("nearest" ∷ "wrap" ∷ [])) (bytes_of "wrap") ≡ Some 1
  pub beginning : place_in (word_list ("nearest" ∷ "wrap" ∷ [])) (bytes_of "near") ≡ None
  pub longer : place_in (word_list ("nearest" ∷ "wrap" ∷ [])) (bytes_of "wraps") ≡ None
  pub empty : place_in (word_list ("nearest" ∷ "wrap" ∷ [])) [] ≡ None
  pub twice : place_in (word_list ("wrap" ∷ "wrap" ∷ [])) (bytes_of "wrap") ≡ Some 0
