-- The worked rows of grids and refusals: each holds by computing.
-- Assumes nothing.
use mathlib.Core.Path.{refl}
use Rattle.numbers.specs.Lists.{tabulate}
use Rattle.numbers.specs.Windows.{window_of}
use Rattle.array_spec.specs.Grid.{place_of, coordinate}
use Rattle.array_spec.specs.Conditions.{bad_shape, grid_count, bad_level}
use Rattle.lanes.specs.Lanes.{lane_at, along_axis}
use Rattle.border.specs.Border.{cell_for, extended_lane}
use Rattle.pad_line.specs.Line.{padded_at, padded_line}
use Rattle.uniform_spec.specs.JudgeRows.{JudgeRows}

pub judge_rows : JudgeRows
unfolding bad_shape grid_count bad_level tabulate window_of lane_at along_axis cell_for extended_lane padded_at padded_line place_of coordinate
judge_rows = record {
  t6 = refl;
  t6_grid = refl;
  sums = refl;
  even = refl;
  down = refl;
  across = refl;
  both = refl;
  box = refl;
  box_grid = refl;
  twice = refl;
  mixed = refl;
  mixed-constants = refl;
  mixed-box = refl;
  sizes = refl;
  grid_sizes = refl;
  axis_1 = refl;
  constants = refl;
  grid_constants = refl;
  second_constant = refl;
  third_constant = refl;
  axis-first = refl;
  reaches = refl;
  grid_reaches = refl;
  halves = refl;
  second-reach = refl;
  one-half = refl;
  one_cell = refl;
  any_axis_lem = refl;
  beyond-one = refl;
  beyond_later = refl;
  beyond_own = refl;
  grids = refl;
  grid_grids = refl;
}
