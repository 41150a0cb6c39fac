-- `rows` meets its contract: every row holds by computing.
use mathlib.Core.Path.{refl}
use lib.Ieee.{add, sub, mul, lt}
use Rattle.numbers.specs.Lists.{tabulate}
use Rattle.numbers.specs.Windows.{window_of}
use Rattle.array_spec.specs.Grid.{place_of, coordinate}
use Rattle.lanes.specs.Lanes.{lane_at, along_axis}
use Rattle.border.specs.Border.{cell_for, extended_lane, outer_constants, extended_grid_by}
use Rattle.pad_line.specs.Line.{padded_at, padded_line}
use Rattle.symmetry_spec.specs.Class.{some_differs, exceeds}
use Rattle.correlate_spec.specs.Weighed.{summed}
use Rattle.correlate_spec.specs.Correlated.{correlated_by}
use Rattle.correlate_spec.specs.Convolved.{convolved_at, convolved_by}
use Rattle.correlate_spec.specs.Kernel.{kernel_sum, kernel_answer, convolved_sum}
use Rattle.correlate_spec.proofs.rows.Goals as goal

pub returns : goal.returns
unfolding tabulate window_of summed add mul along_axis lane_at padded_at padded_line extended_lane cell_for correlated_by convolved_at convolved_by some_differs exceeds sub lt
    place_of coordinate outer_constants extended_grid_by kernel_sum kernel_answer convolved_sum
returns c = record {
  padded = refl;
  window_sums_lem = refl;
  symmetric = refl;
  anti = refl;
  t2 = refl;
  t3 = refl;
  moved = refl;
  one-weight = refl;
  met = refl;
  box_correlated = refl;
  box_convolved = refl;
  odds_correlated = refl;
  odds_convolved = refl;
  float = refl;
  near = refl;
  from_zero = refl;
  from_middle = refl;
  sides = refl;
  side = refl;
  left_pads = refl;
  right_pads = refl;
  t8 = refl;
  no_left = refl;
  three_axes = refl;
  box_kernels = refl;
  one_cell = refl;
}
