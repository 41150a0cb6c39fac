-- `rows` meets its contract: every row holds by computing.
use mathlib.Core.Path.{refl}
use Rattle.numbers.specs.Lists.{tabulate}
use Rattle.array_spec.specs.Grid.{place_of, coordinate}
use Rattle.array_spec.specs.Conditions.{bad_shape, grid_count, bad_level}
use Rattle.lanes.specs.Lanes.{lane_at, along_axis}
use Rattle.border.specs.Border.{cell_for, extended_lane}
use Rattle.pad_line.specs.Line.{padded_at, padded_line}
use Rattle.correlate_spec.specs.Weighed.{summed}
use Rattle.correlate_spec.specs.Correlated.{correlated_by}
use Rattle.gradient_spec.specs.Gradient.{gradient_to}
use Rattle.gradient_spec.proofs.rows.Goals as goal

pub returns : goal.returns
unfolding gradient_to correlated_by summed along_axis lane_at padded_line padded_at extended_lane cell_for tabulate bad_shape grid_count bad_level place_of coordinate
returns c = record {
  weights = (record { three = refl; small = refl }, record { three = refl; small = refl }, record { three = refl; small = refl });
  t7_nearest = refl;
  t7_constant = refl;
  t7_passes = refl;
  prewitt_nearest = refl;
  prewitt_constant = refl;
  sobel_last = refl;
  prewitt_last = refl;
  sobel_first = refl;
  prewitt_first = refl;
  sobel_middle = refl;
  sobel_third = refl;
  sobel_box = refl;
  prewitt_box = refl;
  sobel_mixed = refl;
  prewitt_mixed = refl;
  sobel_box-mixed = refl;
  prewitt_box-mixed = refl;
  sobel_constants = refl;
  prewitt_constants = refl;
  one-axis = refl;
  axes = refl;
  constants = refl;
  axis-before_constant = refl;
  own_constants = refl;
  constant_past = refl;
  reaches = refl;
  own_reach = refl;
  other_reach = refl;
  filled = refl;
  grids = refl;
  sums = refl;
  later_sums = refl;
}
