-- `rows` meets its contract: every row holds by computing.
use mathlib.Core.Path.{refl}
use Rattle.statistics_spec.specs.Sorting.{inserted, sorted, at_most}
use Rattle.statistics_spec.specs.Statistics.{mean_of, median_of, unserved}
use Rattle.statistics_spec.proofs.rows.Goals as goal

pub returns : goal.returns
unfolding inserted sorted at_most mean_of median_of unserved
returns c = record {
  extreme = refl;
  greatest = refl;
  mean_above = refl;
  mean_below = refl;
  mean_three = refl;
  mean_limits = refl;
  mean_few = refl;
  t10_above = refl;
  t10_below = refl;
  median_even = refl;
  median_odd = refl;
  median_limits = refl;
  median_few = refl;
  rising = refl;
  counted = refl;
  above_two = refl;
  levels_served = refl;
  cells_served = refl;
  answers = refl;
  answers_long = refl;
}
