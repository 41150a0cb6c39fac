-- `rows` meets its contract: every row holds by computing.
use mathlib.Core.Path.{refl}
use Rattle.numbers.specs.Lists.{tabulate}
use Rattle.numbers.specs.Windows.{window_of}
use Rattle.array_spec.specs.Grid.{place_of, coordinate}
use Rattle.array_spec.specs.Conditions.{bad_shape, grid_count, bad_level}
use Rattle.lanes.specs.Lanes.{along_axis}
use Rattle.border.specs.Border.{cell_for, extended_lane}
use Rattle.window_spec.specs.Origin.{bad_origin}
use Rattle.pad_line.specs.Line.{padded_at, padded_line}
use Rattle.min_max_spec.specs.Call.{first_in}
use Rattle.min_max_spec.specs.Run.{answer_of}
use Rattle.codes.specs.Codes.{mode_of}
use Rattle.text_spec.specs.Writing.{places_of}
use Rattle.recipe_spec.specs.Recipes.{file_of, bad_mark, bad_step_count, bad_step_constant, bad_step_origin, bad_step}
use Rattle.recipe_spec.specs.Player.{played, steps_judged}
use Rattle.grid_text_spec.specs.Words.{not_number, bad_word, word_outside, axis_count}
use Rattle.play_text.proofs.rows.Goals as goal

pub returns : goal.returns
unfolding places_of tabulate window_of place_of coordinate bad_shape grid_count bad_level along_axis cell_for extended_lane bad_origin padded_at padded_line first_in answer_of mode_of file_of bad_mark bad_step_count
    bad_step_constant bad_step_origin bad_step played steps_judged not_number bad_word word_outside axis_count
returns c =
    record {
      example = refl;
      two_steps = refl;
      accepted = refl;
      file-first = refl;
      step-first = refl;
      text_next = refl;
      level-next = refl;
      second-step = refl;
      front = refl;
      shown = refl;
      printed = refl;
    }
