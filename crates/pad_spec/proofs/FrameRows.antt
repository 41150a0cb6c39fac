-- The worked rows of what the workers leave: each holds by computing.
-- Assumes nothing.
use mathlib.Core.Path.{refl}
use Rattle.numbers.specs.Lists.{tabulate}
use Rattle.array_spec.specs.Grid.{place_of, coordinate}
use Rattle.lanes.specs.Lanes.{lane_at}
use Rattle.border.specs.Border.{cell_for, extended_lane}
use Rattle.pad_line.specs.Line.{padded_at}
use Rattle.pad_spec.specs.Frame.{row_set_lem, middle_set}
use Rattle.pad_spec.specs.Runs.{coordinate_set, rim_set, axis_set}
use Rattle.pad_spec.specs.FrameRows.{FrameRows}

pub frame_rows : FrameRows
unfolding tabulate place_of coordinate row_set_lem middle_set lane_at extended_lane cell_for padded_at coordinate_set rim_set axis_set
frame_rows = record {
  row = refl;
  targets = refl;
  row_set = refl;
  middle = refl;
  reads_before = refl;
  reads_after = refl;
  coordinate-set = refl;
  rim_before = refl;
  rim_after = refl;
  both_rims = refl;
}
