-- `rows` meets its contract: every row holds by computing.
use mathlib.Core.Path.{refl}
use Rattle.numbers.specs.Lists.{tabulate}
use Rattle.array_spec.specs.Conditions.{bad_shape, grid_count}
use Rattle.array_spec.specs.Grid.{place_of, coordinate}
use Rattle.median_spec.specs.Around.{cells_around, true_around, median_answer}
use Rattle.median_spec.proofs.rows.Goals as goal

pub returns : goal.returns
unfolding bad_shape grid_count tabulate place_of coordinate cells_around true_around median_answer
returns c = record {
  neighbours = refl;
  sums = refl;
  cells = refl;
  t9_four = refl;
  t9_three = refl;
  clipped = refl;
  middle = refl;
  counts = refl;
  half_of_twelve = refl;
  five_of_twelve = refl;
  cell = refl;
  plane = refl;
  columns = refl;
  votes = refl;
  sum = refl;
  place = refl;
  set = refl;
  axes = refl;
  single = refl;
  two_axes = refl;
  four_axes = refl;
  lengths = refl;
  one_cell = refl;
  order = refl;
  accepted = refl;
}
