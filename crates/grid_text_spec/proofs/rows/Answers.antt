-- `rows` meets its contract: every row holds by computing.
use mathlib.Core.Path.{refl}
use Rattle.text_spec.specs.Writing.{places_of}
use Rattle.grid_text_spec.specs.Words.{not_number, bad_word, word_outside, axis_count}
use Rattle.grid_text_spec.specs.Machine.{next_byte, broken_word, wrong_word, out_word, axes_after, cells_after, word_end, lengths_after, levels_after, state_after, byte_fed, large_shape, finish_of}
use Rattle.grid_text_spec.proofs.rows.Goals as goal

pub returns : goal.returns
unfolding places_of not_number bad_word word_outside axis_count next_byte broken_word wrong_word out_word axes_after cells_after word_end lengths_after levels_after state_after byte_fed large_shape finish_of
returns c =
    record {
      example = refl;
      gaps = refl;
      gap_words = refl;
      example_lengths = refl;
      example_levels = refl;
      two_axes = refl;
      example_fed = refl;
      fed_lengths = refl;
      fed-levels = refl;
      nothing = refl;
      gaps_alone = refl;
      count_no_number = refl;
      count_9 = refl;
      count_0 = refl;
      count_4 = refl;
      length_5000 = refl;
      length_0 = refl;
      length_1025 = refl;
      length_1024 = refl;
      length-below = refl;
      length_missing = refl;
      length_no_number = refl;
      product_16384 = refl;
      product_8194 = refl;
      product_8192 = refl;
      product-fed = refl;
      long_large = refl;
      long_one = refl;
      long_then_refused = refl;
      long_fed = refl;
      minus-level = refl;
      minus-level_0 = refl;
      minus_count = refl;
      tab = refl;
      carriage_return = refl;
      plus = refl;
      lone_minus = refl;
      minus_twice = refl;
      minus-inside = refl;
      letter = refl;
      eighteen = refl;
      eighteen_below = refl;
      nineteen = refl;
      nineteen_fed = refl;
      too_few = refl;
      too_many = refl;
      lines = refl;
      lines_in_lem = refl;
      lines_count_lem = refl;
      lines_kept = refl;
      lines_no_room = refl;
    }
