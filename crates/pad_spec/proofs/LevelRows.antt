-- The worked rows of padded grids and refusals: each holds by computing.
-- Assumes nothing.
use mathlib.Core.Path.{refl}
use Rattle.numbers.specs.Lists.{tabulate}
use Rattle.array_spec.specs.Conditions.{bad_shape, grid_count, bad_level}
use Rattle.array_spec.specs.Grid.{place_of, coordinate}
use Rattle.border.specs.Border.{cell_for, extended_lane}
use Rattle.pad_line.specs.Line.{padded_at}
use Rattle.statistics_spec.specs.Sorting.{inserted, sorted}
use Rattle.statistics_spec.specs.Statistics.{mean_of, median_of}
use Rattle.pad_spec.specs.Conditions.{bad_pads, bad_pad_reach, bad_pad_sums}
use Rattle.pad_spec.specs.Levels.{level_to, padded_grid, padded_over}
use Rattle.pad_spec.specs.LevelRows.{LevelRows}

pub level-rows : LevelRows
unfolding tabulate bad_shape grid_count bad_level place_of coordinate cell_for extended_lane padded_at inserted sorted mean_of median_of bad_pads bad_pad_reach bad_pad_sums level_to padded_grid padded_over
level-rows = record {
  three_edge = refl;
  three_reflect = refl;
  three_symmetric = refl;
  three_wrap = refl;
  three_constant = refl;
  median = refl;
  median_below = refl;
  square_constant = refl;
  square_edge = refl;
  square_maximum = refl;
  square_minimum = refl;
  square_mean = refl;
  square_median = refl;
  square_reflect = refl;
  square_symmetric = refl;
  square_wrap = refl;
  pair-each = refl;
  over_constant = refl;
  over_edge = refl;
  early = refl;
  counts = refl;
  pads = refl;
  cells = refl;
  outputs = refl;
  reach_reflect = refl;
  reach_symmetric = refl;
  reach_wrap = refl;
  reach_edge = refl;
  sums = refl;
}
