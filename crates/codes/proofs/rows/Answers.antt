-- `rows` meets its contract: every row holds by computing.
use mathlib.Core.Path.{refl}
use Rattle.numbers.specs.Lists.{tabulate}
use Rattle.symmetry_spec.specs.Class.{some_differs}
use Rattle.words.specs.Words.{place_in}
use Rattle.codes.specs.Codes.{mode_of, mode_of_f64, padding_of, kernel_of, coded}
use Rattle.codes.proofs.rows.Goals as goal

pub returns : goal.returns
unfolding place_in tabulate some_differs mode_of mode_of_f64 padding_of kernel_of coded
returns c = record {
  border_0 = refl;
  border_1 = refl;
  border_2 = refl;
  border_3 = refl;
  border_4 = refl;
  border_5 = refl;
  known_4 = refl;
  unknown_5 = refl;
  unknown_255 = refl;
  float_1 = refl;
  float_2 = refl;
  float_3 = refl;
  float_4 = refl;
  pad_0 = refl;
  pad_1 = refl;
  pad_2 = refl;
  pad_3 = refl;
  pad_4 = refl;
  pad_5 = refl;
  pad_6 = refl;
  pad_7 = refl;
  pad_8 = refl;
  pad_9 = refl;
  judged-last = refl;
  judged-alone = refl;
  judged_known = refl;
  kernel_3 = refl;
  class_1 = refl;
  class_0 = refl;
  word_constant = refl;
  word_mirror = refl;
  word_nearest = refl;
  word_reflect = refl;
  word_wrap = refl;
  word_edge = refl;
  pad_word_constant = refl;
  pad_word_edge = refl;
  pad_word_maximum = refl;
  pad_word_mean = refl;
  pad_word_median = refl;
  pad_word_minimum = refl;
  pad_word_reflect = refl;
  pad_word_symmetric = refl;
  pad_word_wrap = refl;
  pad_word_mirror = refl;
  word_star = refl;
  word_ball = refl;
  word_full = refl;
  class_symmetric = refl;
  class_neither = refl;
}
