-- Worked rows of grid texts. Each holds by computing.
--   zeros_before n t    n zeros before the text t
--   number_for t        the number of a text, by its words
--   fed_number t        the number of a text, byte by byte
--   GridTextSpecRows   the rows
use Rattle.std.specs.Prelude.{ℕ, ◌≡◌, List, [], ◌∷◌, ◌++◌, pos, replicate}
use Rattle.numbers.specs.Refusal.{refusal_of}
use Rattle.numbers.specs.Rows.{minus}
use Rattle.words.specs.Words.{bytes_of, word_list}
use Rattle.grid_text_spec.specs.Words.{text_words, text_lengths, text_levels, text_judged}
use Rattle.grid_text_spec.specs.Machine.{machine, start_state, fed, finish_of}
use Rattle.grid_text_spec.specs.Lines.{level_lines, lines_in, lines_count}

abbrev pub zeros_before : ℕ → List ℕ → List ℕ
zeros_before n t = replicate n 48 ++ t

abbrev pub number_for : List ℕ → ℕ
number_for t = refusal_of (text_judged t)

abbrev pub fed_number : List ℕ → ℕ
fed_number t = finish_of (fed (machine start_state (7 ∷ []) []) t).state

pub record GridTextSpecRows : Type 0 where
  -- a grid of three cells, in any gaps
  pub example : number_for (bytes_of "1 3 4 2 7") ≡ 0
  pub gaps : number_for (bytes_of "\n 1\n\n3 4  2\n7 \n") ≡ 0
  pub gap_words : text_words (bytes_of "\n 1\n\n3 -x  ") ≡ word_list ("1" ∷ "3" ∷ "-x" ∷ [])
  pub example_lengths : text_lengths (text_words (bytes_of "1 3 4 2 7")) ≡ 3 ∷ []
  pub example_levels : text_levels (text_words (bytes_of "1 3\n4  -2\n7\n")) ≡ pos 4 ∷ minus 2 ∷ pos 7 ∷ []
  pub two_axes : text_lengths (text_words (bytes_of "2 3 1 4 2 7")) ≡ 3 ∷ 1 ∷ []
  -- byte by byte; what is lent has room for the length and not for the levels
  pub example_fed : fed_number (bytes_of "1 3 4 2 7") ≡ 0
  pub fed_lengths : (fed (machine start_state (9 ∷ 9 ∷ []) []) (bytes_of "1 3 4 ")).lengths ≡ 3 ∷ 9 ∷ []
  pub fed-levels : (fed (machine start_state [] (pos 9 ∷ pos 9 ∷ [])) (bytes_of "1 3 -4 ")).levels ≡ minus 4 ∷ pos 9 ∷ []
  -- the empty text, and a count that is no number
  pub nothing : number_for [] ≡ 2
  pub gaps_alone : number_for (bytes_of " \n") ≡ 2
  pub count_no_number : number_for (bytes_of "x 5000") ≡ 2
  -- 1 before 2: a count and a length that are refused, whatever the other words are
  pub count_9 : number_for (bytes_of "9 x") ≡ 1
  pub count_0 : number_for (bytes_of "0") ≡ 1
  pub count_4 : number_for (bytes_of "4 1 1 1 1 5") ≡ 1
  pub length_5000 : number_for (bytes_of "2 x 5000") ≡ 1
  pub length_0 : number_for (bytes_of "1 0") ≡ 1
  pub length_1025 : number_for (bytes_of "1 1025") ≡ 1
  pub length_1024 : number_for (bytes_of "1 1024") ≡ 2
  pub length-below : number_for (bytes_of "1 -3 4") ≡ 1
  -- no product where a length is missing or no number
  pub length_missing : number_for (bytes_of "3 1024 1024") ≡ 2
  pub length_no_number : number_for (bytes_of "3 1024 1024 x") ≡ 2
  pub product_16384 : number_for (bytes_of "2 128 128") ≡ 1
  pub product_8194 : number_for (bytes_of "2 34 241") ≡ 1
  pub product_8192 : number_for (bytes_of "2 256 32") ≡ 2
  pub product-fed : fed_number (bytes_of "2 34 241") ≡ 1
  -- a count of 19 digits that is too large; 22 digits of value 1; the same before a refused length
  pub long_large : number_for (bytes_of "1000000000000000000 1") ≡ 1
  pub long_one : number_for (zeros_before 21 (bytes_of "1 1 5")) ≡ 2
  pub long_then_refused : number_for (zeros_before 21 (bytes_of "1 5000")) ≡ 1
  pub long_fed : fed_number (zeros_before 21 (bytes_of "1 5000")) ≡ 1
  -- −0 is 0: a good level and a refused count
  pub minus-level : number_for (bytes_of "1 1 -0") ≡ 0
  pub minus-level_0 : text_levels (text_words (bytes_of "1 1 -0")) ≡ pos 0 ∷ []
  pub minus_count : number_for (bytes_of "-0") ≡ 1
  -- words that are no numbers: a tab (9) or a carriage return (13) in them, a plus, a lone minus
  pub tab : number_for (bytes_of "1" ++ 9 ∷ bytes_of "1 5") ≡ 2
  pub carriage_return : number_for (bytes_of "1 1 5" ++ 13 ∷ []) ≡ 2
  pub plus : number_for (bytes_of "1 1 +5") ≡ 2
  pub lone_minus : number_for (bytes_of "1 1 -") ≡ 2
  pub minus_twice : number_for (bytes_of "1 1 --5") ≡ 2
  pub minus-inside : number_for (bytes_of "1 1 5-") ≡ 2
  pub letter : number_for (bytes_of "1 1 a") ≡ 2
  -- levels of 18 and of 19 digits; the minus is none
  pub eighteen : number_for (bytes_of "1 1 " ++ zeros_before 17 (bytes_of "1")) ≡ 0
  pub eighteen_below : number_for (bytes_of "1 1 -" ++ zeros_before 17 (bytes_of "1")) ≡ 0
  pub nineteen : number_for (bytes_of "1 1 " ++ zeros_before 18 (bytes_of "1")) ≡ 2
  pub nineteen_fed : fed_number (bytes_of "1 1 " ++ zeros_before 18 (bytes_of "1")) ≡ 2
  -- a level too few, one too many
  pub too_few : number_for (bytes_of "1 2 5") ≡ 2
  pub too_many : number_for (bytes_of "1 1 5 5") ≡ 2
  -- levels as lines: −7, 0 and 12; in 21 bytes and in 20
  pub lines : level_lines (minus 7 ∷ pos 0 ∷ pos 12 ∷ []) ≡ bytes_of "-7\n0\n12\n"
  pub lines_in_lem : lines_in (pos 4 ∷ []) (replicate 21 9) ≡ 52 ∷ 10 ∷ replicate 19 9
  pub lines_count_lem : lines_count (pos 4 ∷ []) (replicate 21 9) ≡ 2
  pub lines_kept : lines_in (pos 4 ∷ []) (replicate 20 9) ≡ replicate 20 9
  pub lines_no_room : lines_count (pos 4 ∷ []) (replicate 20 9) ≡ 0
