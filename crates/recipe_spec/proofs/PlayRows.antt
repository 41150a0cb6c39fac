-- The worked rows of the player: each holds by computing.
-- Assumes nothing.
use mathlib.Core.Path.{refl}
use Rattle.numbers.specs.Lists.{tabulate}
use Rattle.numbers.specs.Windows.{window_of}
use Rattle.array_spec.specs.Grid.{place_of, coordinate}
use Rattle.array_spec.specs.Conditions.{bad_shape, grid_count, bad_level}
use Rattle.lanes.specs.Lanes.{along_axis}
use Rattle.border.specs.Border.{cell_for, extended_lane}
use Rattle.window_spec.specs.Origin.{bad_origin}
use Rattle.pad_line.specs.Line.{padded_at, padded_line}
use Rattle.min_max_spec.specs.Call.{first_in}
use Rattle.min_max_spec.specs.Run.{answer_of}
use Rattle.codes.specs.Codes.{mode_of}
use Rattle.recipe_spec.specs.Recipes.{file_of, bad_mark, bad_step_count, bad_step_constant, bad_step_origin, bad_step}
use Rattle.recipe_spec.specs.Player.{played, steps_judged}
use Rattle.recipe_spec.specs.PlayRows.{PlayRows}

pub play_rows : PlayRows
unfolding tabulate window_of place_of coordinate bad_shape grid_count bad_level along_axis cell_for extended_lane bad_origin padded_at padded_line first_in answer_of mode_of file_of bad_mark bad_step_count bad_step_constant
    bad_step_origin bad_step played steps_judged
play_rows = record {
  example = refl;
  t4 = refl;
  t5 = refl;
  t5-turned = refl;
  t6 = refl;
  mixed = refl;
  first_step = refl;
  lowest = refl;
  means = refl;
  one_cell = refl;
  file-first = refl;
  grid_next = refl;
  lent_next = refl;
}
