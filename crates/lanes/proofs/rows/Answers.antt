-- `rows` meets its contract: every row holds by computing.
use mathlib.Core.Path.{refl}
use Rattle.numbers.specs.Lists.{tabulate}
use Rattle.array_spec.specs.Grid.{place_of, coordinate}
use Rattle.array_spec.specs.Conditions.{bad_shape}
use Rattle.lanes.specs.Lanes.{lane_at, with_lane, lane_inside, along_axis}
use Rattle.lanes.proofs.rows.Goals as goal

pub returns : goal.returns
unfolding tabulate bad_shape lane_at with_lane lane_inside along_axis place_of coordinate
returns c = record {
  lanes_down = refl;
  lanes_across = refl;
  lanes_refused = refl;
  lane-down = refl;
  lane-across = refl;
  lane-numbers = refl;
  lane_written = refl;
  insides = refl;
  read_in = refl;
  read_out = refl;
  through = refl;
  turned-middle = refl;
  turned_down = refl;
  turned-across = refl;
  turned-both = refl;
}
