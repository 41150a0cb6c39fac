-- Worked rows of codes and words: what each names, codes that name nothing, and the number that these get. Each holds
-- by computing.
--   CodesRows   the rows
use Rattle.std.specs.Prelude.{◌≡◌, true, false, [], ◌∷◌, pos, get_or, Some, None}
use Rattle.numbers.specs.Refusal.{refusal_of}
use Rattle.border.specs.declared.BorderMode.TheVariants as Whole
use Rattle.border.specs.declared.BorderModeF64.TheVariants as F64
use Rattle.border.specs.declared.PadMode.TheVariants as Pad
use Rattle.symmetry_spec.specs.Class.{class_z}
use Rattle.codes.specs.Codes.{mode_of, mode_of_f64, padding_of}
use Rattle.codes.specs.Codes.{unknown_border, unknown_pad, unknown_kernel, coded, code_of}
use Rattle.codes.specs.Words.{border_words, pad_words, kernel_words, class_words}
use Rattle.words.specs.Words.{bytes_of, place_in}
use Rattle.std.specs.Float.{nan}

pub record CodesRows : Type 0 where
  -- the borders in the order of their codes; 5 and 255 name none
  pub border_0 : mode_of 0 (pos 7) ≡ Whole.Constant (pos 7)
  pub border_1 : mode_of 1 (pos 7) ≡ Whole.Mirror
  pub border_2 : mode_of 2 (pos 7) ≡ Whole.Nearest
  pub border_3 : mode_of 3 (pos 7) ≡ Whole.Reflect
  pub border_4 : mode_of 4 (pos 7) ≡ Whole.Wrap
  pub border_5 : mode_of 5 (pos 7) ≡ Whole.Nearest
  pub known_4 : unknown_border 4 ≡ false
  pub unknown_5 : unknown_border 5 ≡ true
  pub unknown_255 : unknown_border 255 ≡ true
  -- float borders have the same codes
  pub float_1 : mode_of_f64 1 nan ≡ F64.Mirror
  pub float_2 : mode_of_f64 2 nan ≡ F64.Nearest
  pub float_3 : mode_of_f64 3 nan ≡ F64.Reflect
  pub float_4 : mode_of_f64 4 nan ≡ F64.Wrap
  -- the padding modes
  pub pad_0 : padding_of 0 (pos 7) ≡ Pad.Constant (pos 7)
  pub pad_1 : padding_of 1 (pos 7) ≡ Pad.Edge
  pub pad_2 : padding_of 2 (pos 7) ≡ Pad.Maximum
  pub pad_3 : padding_of 3 (pos 7) ≡ Pad.Mean
  pub pad_4 : padding_of 4 (pos 7) ≡ Pad.Median
  pub pad_5 : padding_of 5 (pos 7) ≡ Pad.Minimum
  pub pad_6 : padding_of 6 (pos 7) ≡ Pad.Reflect
  pub pad_7 : padding_of 7 (pos 7) ≡ Pad.Symmetric
  pub pad_8 : padding_of 8 (pos 7) ≡ Pad.Wrap
  pub pad_9 : unknown_pad 9 ≡ true
  -- an unknown code is judged last: 11 before 100
  pub judged-last : refusal_of (coded ((false, 9) ∷ (true, 11) ∷ []) true) ≡ 11
  pub judged-alone : refusal_of (coded ((false, 9) ∷ (false, 11) ∷ []) true) ≡ 100
  pub judged_known : refusal_of (coded ((false, 9) ∷ (false, 11) ∷ []) false) ≡ 0
  -- kernels: 3 names none
  pub kernel_3 : unknown_kernel 3 ≡ true
  -- 1 2 1 is Symmetric, 1 2 −1 AntiSymmetric, 1 2 neither
  pub class_1 : code_of (class_z (pos 1 ∷ pos 2 ∷ pos 1 ∷ [])) ≡ 1
  pub class_0 : code_of (class_z (pos 1 ∷ pos 2 ∷ [])) ≡ 0
  -- the words in the order of their codes
  pub word_constant : place_in border_words (bytes_of "constant") ≡ Some 0
  pub word_mirror : place_in border_words (bytes_of "mirror") ≡ Some 1
  pub word_nearest : place_in border_words (bytes_of "nearest") ≡ Some 2
  pub word_reflect : place_in border_words (bytes_of "reflect") ≡ Some 3
  pub word_wrap : place_in border_words (bytes_of "wrap") ≡ Some 4
  pub word_edge : place_in border_words (bytes_of "edge") ≡ None
  pub pad_word_constant : place_in pad_words (bytes_of "constant") ≡ Some 0
  pub pad_word_edge : place_in pad_words (bytes_of "edge") ≡ Some 1
  pub pad_word_maximum : place_in pad_words (bytes_of "maximum") ≡ Some 2
  pub pad_word_mean : place_in pad_words (bytes_of "mean") ≡ Some 3
  pub pad_word_median : place_in pad_words (bytes_of "median") ≡ Some 4
  pub pad_word_minimum : place_in pad_words (bytes_of "minimum") ≡ Some 5
  pub pad_word_reflect : place_in pad_words (bytes_of "reflect") ≡ Some 6
  pub pad_word_symmetric : place_in pad_words (bytes_of "symmetric") ≡ Some 7
  pub pad_word_wrap : place_in pad_words (bytes_of "wrap") ≡ Some 8
  pub pad_word_mirror : place_in pad_words (bytes_of "mirror") ≡ None
  pub word_star : place_in kernel_words (bytes_of "star") ≡ Some 0
  pub word_ball : place_in kernel_words (bytes_of "ball") ≡ Some 1
  pub word_full : place_in kernel_words (bytes_of "full") ≡ Some 2
  -- the word of a class stands at its code
  pub class_symmetric : get_or class_words (code_of (class_z (pos 1 ∷ pos 2 ∷ pos 1 ∷ []))) [] ≡ bytes_of "Symmetric"
  pub class_neither : get_or class_words (code_of (class_z (pos 1 ∷ pos 2 ∷ []))) [] ≡ bytes_of "NonSymmetric"
