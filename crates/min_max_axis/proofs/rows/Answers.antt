-- `rows` meets its contract: every row holds by computing.
use mathlib.Core.Path.{refl}
use Rattle.numbers.specs.Lists.{tabulate}
use Rattle.numbers.specs.Windows.{window_of}
use Rattle.array_spec.specs.Grid.{place_of, coordinate}
use Rattle.border.specs.Border.{cell_for, extended_lane}
use Rattle.pad_line.specs.Line.{padded_at, padded_line}
use Rattle.min_max_ring.specs.Extremes.{extremes}
use Rattle.min_max_spec.specs.Call.{first_in}
use Rattle.min_max_spec.specs.Run.{answer_of}
use Rattle.min_max_axis.proofs.rows.Goals as goal

pub returns : goal.returns
unfolding tabulate window_of place_of coordinate cell_for extended_lane padded_at padded_line extremes first_in answer_of
returns c = record {
  orders = refl;
  t4_minimum = refl;
  t4_maximum = refl;
  before = refl;
  after = refl;
  line-both = refl;
  line_before = refl;
  line-least = refl;
  line_greatest = refl;
}
