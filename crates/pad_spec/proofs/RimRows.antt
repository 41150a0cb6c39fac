-- The worked rows of the rims of a lane: each holds by computing.
-- Assumes nothing.
use mathlib.Core.Path.{◌≡◌, refl}
use mathlib.Core.List.{List}
use lib.IntN.{ℤ}
use Rattle.numbers.specs.Lists.{tabulate}
use Rattle.lanes.specs.Lanes.{lane_at, with_lane, lane_inside}
use Rattle.border.specs.Border.{cell_for, extended_lane}
use Rattle.border.specs.Modes.{border_of, pad_mode_of}
use Rattle.border.specs.declared.BorderMode.{BorderMode}
use Rattle.border.specs.declared.BorderMode.TheVariants.{Constant, Mirror, Nearest, Reflect, Wrap}
use Rattle.pad_line.specs.Line.{padded_at, padded_line}
use Rattle.statistics_spec.specs.Sorting.{inserted, sorted}
use Rattle.statistics_spec.specs.Statistics.{mean_of, median_of, unserved}
use Rattle.pad_spec.specs.Fill.{rim_of, lane_serves, filled_lane}
use Rattle.pad_spec.proofs.Fillers.{filler_along, filler_taking}
use Rattle.pad_spec.specs.RimRows.{RimRows}

modes : (m : BorderMode) (s : List ℤ) → rim_of (pad_mode_of m) s ≡ border_of m
modes (Constant c) s = refl
modes Mirror s = refl
modes Nearest s = refl
modes Reflect s = refl
modes Wrap s = refl

pub rim_rows : RimRows
unfolding tabulate lane_at with_lane lane_inside cell_for extended_lane padded_at padded_line inserted sorted mean_of median_of unserved lane_serves filled_lane
rim_rows = record {
  border_modes = modes;
  median = refl;
  median_below = refl;
  mean_below = refl;
  maximum = refl;
  minimum = refl;
  along_mode = filler_along;
  taking_mode = filler_taking;
  carried = refl;
  mean_far = refl;
  median_far = refl;
  maximum_far = refl;
  minimum_far = refl;
  down_mean = refl;
  down_maximum = refl;
  down_minimum = refl;
  down_median = refl;
  down-past = refl;
  down-none = refl;
}
