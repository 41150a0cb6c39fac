-- `rows` meets its contract: every row holds by computing, those on boxes by the rule.
use mathlib.Core.Path.{refl}
use mathlib.Core.List.{[], ◌∷◌}
use lib.IntN.{pos}
use lib.Signed.{le_z}
use Rattle.numbers.specs.Lists.{tabulate}
use native.Mathlib.Omega.{arith}
use Rattle.numbers.specs.Order.{at_least}
use Rattle.numbers.proofs.IntOrder.{total_≤, total_≥}
use Rattle.array_spec.specs.Conditions.{bad_shape, grid_count, bad_level}
use Rattle.array_spec.specs.Grid.{place_of, coordinate}
use Rattle.border.specs.Border.{constant, cell_for, extended_lane, outer_constants, extended_grid_by}
use Rattle.window_spec.specs.Origin.{bad_origin}
use Rattle.min_max_spec.specs.Call.{first_in, last_in, number_of, grid_number}
use Rattle.min_max_spec.specs.Run.{answer_of, after, run, numbers, accepted}
use Rattle.min_max_spec.specs.Filters.{filter_answer}
use Rattle.min_max_spec.specs.Rows.{rows, square, up, across, cube, three_turned}
use Rattle.min_max_spec.proofs.AxisRows.{borders_are, t5_sweeps, mixed_sweeps, cube_sweeps}
use Rattle.min_max_spec.proofs.AxisRows.{constants, wrapped, constants-least, constants_greatest, wrapped-least, wrapped_greatest, wrapped-turned, three_sweeps}
use Rattle.min_max_spec.proofs.Perms.{order_for}
use Rattle.min_max_spec.proofs.rows.Goals as goal

pub returns : goal.returns
unfolding tabulate bad_shape grid_count bad_level place_of coordinate cell_for extended_lane outer_constants extended_grid_by bad_origin first_in last_in number_of grid_number
    answer_of after run numbers accepted filter_answer
returns c = record {
  t5-up-across = refl;
  t5-across-up = refl;
  t4_minimum = refl;
  t4_maximum = refl;
  refused = refl;
  refused_left = refl;
  refused_level = refl;
  alone_99 = refl;
  alone_copies = refl;
  pads = refl;
  each_pad = refl;
  wrap_pads = refl;
  window_from = refl;
  window-to = refl;
  origins = refl;
  cube-one = refl;
  cube_other = refl;
  t5_grid = refl;
  cube_grid = refl;
  third_axis = refl;
  speaks_of_t5 = t5_sweeps;
  box_of_t5 = (order_for le_z total_≤).one_border square (constant (pos 0)) rows (up ∷ across ∷ []) t5_sweeps (refl, (refl, tt)) 3 (omega arith);
  speaks_of_mixed = mixed_sweeps;
  mixed-numbers = refl;
  speaks_of_cube = cube_sweeps;
  two-constants = refl;
  two-constants-turned = refl;
  constant_wrap = refl;
  constant_wrap_turned = refl;
  corner = refl;
  corner_turned = refl;
  corner_level = refl;
  three_borders_lem = refl;
  three_borders_turned = refl;
  borders = borders_are;
  speaks_of_borders = wrapped-turned;
  speaks_of_borders_turned = wrapped-least;
  speaks_of_three_borders = three_sweeps;
  box_of_two-constants = (
    (order_for le_z total_≤).box square rows constants constants-least 0 (omega arith),
    (order_for at_least total_≥).box square rows constants constants_greatest 0 (omega arith),
  );
  box_of_constant_wrap = (
    (order_for le_z total_≤).box square rows wrapped wrapped-least 0 (omega arith),
    (order_for at_least total_≥).box square rows wrapped wrapped_greatest 0 (omega arith),
  );
  box_of_three_borders = (
    (order_for le_z total_≤).box (2 ∷ 2 ∷ 2 ∷ []) cube three_turned three_sweeps 0 (omega arith),
    (order_for le_z total_≤).box (2 ∷ 2 ∷ 2 ∷ []) cube three_turned three_sweeps 2 (omega arith),
  );
  two-constants_grid = refl;
  constant_wrap_grid = refl;
  three_borders_grid = refl;
  mirror_grid = refl;
}
