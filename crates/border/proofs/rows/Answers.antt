-- `rows` meets its contract: every row holds by computing.
use mathlib.Core.Path.{refl}
use Rattle.array_spec.specs.Grid.{place_of}
use Rattle.array_spec.specs.Conditions.{bad_level}
use Rattle.border.specs.Border.{cell_for, all_inside, extended_lane, outer_constants, extended_grid_by}
use Rattle.border.proofs.rows.Goals as goal

pub returns : goal.returns
unfolding place_of bad_level cell_for all_inside extended_lane outer_constants extended_grid_by
returns c = (
  record {
    three_mirror = refl;
    three_nearest = refl;
    three_reflect = refl;
    three_wrap = refl;
    three_constant = refl;
    floats_mirror = λ x y z. refl;
    floats_nearest = λ x y z. refl;
    floats_reflect = λ x y z. refl;
    floats_wrap = λ x y z. refl;
    floats_constant = λ t x y z. refl;
    plane_constant = refl;
    plane_mirror = refl;
    plane_reflect = refl;
    plane_wrap = refl;
    plane_nearest = refl;
    cube_constant = refl;
    cube_mirror = refl;
    cube_reflect = refl;
    cube_wrap = refl;
    pad_constant = λ t. refl;
    pad_modes = refl;
    kind_constant = λ t. refl;
    kinds = refl;
    constants = refl;
    no_constants = refl;
    float-constants = refl;
    reach_mirror = refl;
    reach_reflect = refl;
    reach_wrap = refl;
    reach_nearest = refl;
    reach_constant = refl;
    reach-one = refl;
  },
  record {
    two-constants = refl;
    constant_wrap = refl;
    wrap_constant = refl;
    mirror_wrap = refl;
    cube-mixed = refl;
    modes = refl;
    named = refl;
    constants = refl;
    reaches = refl;
  },
)
