-- The worked rows of weights along an axis: each holds by computing.
-- Assumes nothing.
use mathlib.Core.Path.{refl}
use Rattle.numbers.specs.Lists.{tabulate}
use Rattle.array_spec.specs.Grid.{place_of, coordinate}
use Rattle.array_spec.specs.Conditions.{bad_shape, grid_count, bad_level}
use Rattle.lanes.specs.Lanes.{lane_at, along_axis}
use Rattle.border.specs.Border.{cell_for, extended_lane}
use Rattle.window_spec.specs.Origin.{bad_origin}
use Rattle.pad_line.specs.Line.{padded_at, padded_line}
use Rattle.correlate_spec.specs.Weighed.{summed}
use Rattle.correlate_spec.specs.Correlated.{correlated_by}
use Rattle.correlate_judge_spec.specs.Judge.{bad_weight}
use Rattle.correlate_judge_spec.specs.WeightRows.{WeightRows}

pub weight-rows : WeightRows
unfolding bad_origin bad_shape grid_count bad_level bad_weight tabulate lane_at along_axis cell_for extended_lane padded_at padded_line summed correlated_by place_of coordinate
weight-rows = record {
  counts = refl;
  weights = refl;
  last-weight = refl;
  origins = refl;
  least_origin = refl;
  origin_alone = refl;
  applied = refl;
  weight-first = refl;
  origin_first = refl;
  axis-first = refl;
  constant_out = refl;
  origin_before-reach = refl;
  axis-before-reach = refl;
  axis-alone = refl;
  reaches = refl;
  one_cell = refl;
  one-cell_mirror = refl;
  sums = refl;
  grids = refl;
  levels = refl;
  float_weights = refl;
  float_constant = refl;
  float_origin = refl;
  float-reach = refl;
}
