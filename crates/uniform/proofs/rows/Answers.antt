-- `rows` meets its contract: every row holds by computing.
use mathlib.Core.Path.{refl}
use Rattle.numbers.specs.Lists.{tabulate}
use Rattle.numbers.specs.Windows.{window_of}
use Rattle.array_spec.specs.Grid.{place_of, coordinate}
use Rattle.array_spec.specs.Conditions.{bad_shape, grid_count, bad_level}
use Rattle.lanes.specs.Lanes.{lane_at, along_axis}
use Rattle.border.specs.Border.{cell_for, extended_lane}
use Rattle.pad_line.specs.Line.{padded_at, padded_line}
use Rattle.uniform.proofs.rows.Goals as goal

pub returns : goal.returns
unfolding bad_shape grid_count bad_level tabulate window_of lane_at along_axis cell_for extended_lane padded_at padded_line place_of coordinate
returns c = record {
  t6-line = refl;
  t6_grid = refl;
  even = refl;
  both = refl;
  own_borders = refl;
  third_border = refl;
  half_over_lem = refl;
  half_along = refl;
}
