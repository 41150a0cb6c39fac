-- `rows` meets its contract: every row holds by computing.
use mathlib.Core.Path.{refl}
use Rattle.window_spec.specs.Origin.{bad_origin}
use Rattle.window_spec.proofs.rows.Goals as goal

pub returns : goal.returns
unfolding bad_origin
returns c = record {
  origins_none = refl;
  origins_one = refl;
  origins_two = refl;
  origins_four = refl;
  origins_five = refl;
  origins_long = refl;
  axis_pads_lem = refl;
  kernel_pads_two = refl;
  kernel_pads_three = refl;
  refusals = refl;
  sizes = refl;
  origins = refl;
  origin_alone = refl;
  reaches_mirror = refl;
  reaches_reflect = refl;
  reach-right = refl;
  reach-alone = refl;
  kernel_reach = refl;
  kernel_axes = refl;
  changed = refl;
  applied = refl;
}
