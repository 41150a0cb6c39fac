-- `rows` meets its contract: every row holds by computing.
use mathlib.Core.Path.{refl}
use Rattle.numbers.specs.Lists.{tabulate}
use Rattle.numbers.specs.Windows.{window_of}
use Rattle.min_max_ring.specs.Extremes.{extremes, swept_by}
use Rattle.min_max_ring.specs.Ring.{ring_place, items_from}
use Rattle.min_max_ring.proofs.rows.Goals as goal

pub returns : goal.returns
unfolding tabulate window_of extremes swept_by ring_place items_from
returns c = record {
  orders = refl;
  least-three = refl;
  greatest_three = refl;
  least-two = refl;
  greatest_two = refl;
  least-whole = refl;
  greatest_whole = refl;
  served = refl;
  not_served = refl;
  swept = refl;
  not_swept = refl;
  single = refl;
  places = refl;
  round = refl;
}
