-- The worked rows of grid kernels: each holds by computing.
-- Assumes nothing.
use mathlib.Core.Path.{refl}
use Rattle.numbers.specs.Lists.{tabulate}
use Rattle.array_spec.specs.Conditions.{bad_shape, grid_count, bad_level}
use Rattle.array_spec.specs.Grid.{place_of, coordinate}
use Rattle.border.specs.Border.{cell_for, outer_constants, extended_grid_by}
use Rattle.window_spec.specs.Origin.{bad_origin}
use Rattle.correlate_spec.specs.Weighed.{summed}
use Rattle.correlate_spec.specs.Kernel.{kernel_sum, kernel_answer}
use Rattle.correlate_judge_spec.specs.Judge.{bad_weight}
use Rattle.correlate_judge_spec.specs.KernelJudge.{bad_kernel}
use Rattle.correlate_judge_spec.specs.KernelRows.{KernelRows}

pub kernel_rows : KernelRows
unfolding bad_kernel bad_origin bad_shape grid_count bad_level bad_weight tabulate place_of coordinate cell_for outer_constants extended_grid_by summed kernel_sum kernel_answer
kernel_rows = record {
  unequal = refl;
  sides = refl;
  long_side = refl;
  axes = refl;
  no_axes = refl;
  counts = refl;
  weights = refl;
  one-cell_origins = refl;
  even_origins = refl;
  odd_origins = refl;
  least_origin = refl;
  laid = refl;
  mirror = refl;
  reflect = refl;
  wrap = refl;
  one_cell = refl;
  kernel_first = refl;
  weight-first = refl;
  origin_first = refl;
  constant_out = refl;
  origin_before-reach = refl;
  sums = refl;
  grids = refl;
}
