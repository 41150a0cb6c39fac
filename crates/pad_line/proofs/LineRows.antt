-- The worked rows of padded lines: each holds by computing.
-- Assumes nothing.
use mathlib.Core.Path.{refl}
use Rattle.numbers.specs.Lists.{tabulate}
use Rattle.numbers.specs.Windows.{window_of}
use Rattle.lanes.specs.Lanes.{lane_at, lane_inside}
use Rattle.border.specs.Border.{cell_for, extended_lane}
use Rattle.pad_line.specs.Line.{padded_at, padded_line, pad_serves}
use Rattle.pad_line.specs.LineRows.{LineRows}

pub line-rows : LineRows
unfolding tabulate window_of lane_at lane_inside cell_for extended_lane padded_at padded_line pad_serves
line-rows = record {
  three_mirror = refl;
  three_nearest = refl;
  three_reflect = refl;
  three_wrap = refl;
  three_constant = refl;
  unequal_reflect = refl;
  unequal_wrap = refl;
  unequal_constant = refl;
  no_pads = refl;
  last-window = refl;
  past-window = refl;
  filtered-first = refl;
  filtered-line = refl;
  down_reflect = refl;
  down_nearest = refl;
  down-past = refl;
  down_short = refl;
  down-bad-left = refl;
  down-bad-right = refl;
}
