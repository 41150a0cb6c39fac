-- `rows` meets its contract: every row holds by computing.
use mathlib.Core.Path.{refl}
use Rattle.array_spec.specs.Conditions.{bad_shape, grid_count, bad_level}
use Rattle.window_spec.specs.Origin.{bad_origin}
use Rattle.min_max_judge.proofs.rows.Goals as goal

pub returns : goal.returns
unfolding bad_origin bad_shape grid_count bad_level
returns c = record {
  last-axis = refl;
  along_size_66 = refl;
  along_origin_1 = refl;
  axis_2 = refl;
  along_constant_out = refl;
  along_reach_out = refl;
  second_short = refl;
  accepted = refl;
  size_66 = refl;
  origin_1 = refl;
  constant_out = refl;
  reach_out = refl;
  last-axis_out = refl;
  own_reach = refl;
  own_constant_lem = refl;
  constant_first = refl;
}
