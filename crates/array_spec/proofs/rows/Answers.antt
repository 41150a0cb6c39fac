-- `rows` meets its contract: every row holds by computing.
use mathlib.Core.Path.{refl}
use Rattle.numbers.specs.Lists.{tabulate}
use Rattle.array_spec.specs.Conditions.{bad_shape, grid_count, bad_level}
use Rattle.array_spec.specs.Grid.{place_of, coordinate}
use Rattle.array_spec.proofs.rows.Goals as goal

pub returns : goal.returns
unfolding tabulate place_of coordinate bad_shape grid_count bad_level
returns c = record {
  count = refl;
  lengths = refl;
  strides = refl;
  place = refl;
  places = refl;
  level = refl;
  refused_shapes = refl;
  accepted_shapes = refl;
  counts = refl;
  wrong_lengths = refl;
  levels = refl;
  floats = refl;
  axes = refl;
  copy = refl;
  copy_other = refl;
  numbers = refl;
  float-numbers = refl;
}
