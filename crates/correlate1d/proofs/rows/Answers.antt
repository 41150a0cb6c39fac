-- `rows` meets its contract: every row holds by computing.
use mathlib.Core.Path.{refl}
use mathlib.Core.Bool.{true≢false}
use native.Mathlib.Omega.{arith}
use Rattle.array_spec.specs.Conditions.{bad_shape, bad_level}
use Rattle.window_spec.specs.Origin.{bad_origin}
use Rattle.correlate_judge_spec.specs.Judge.{bad_weight}
use Rattle.correlate1d.proofs.rows.Goals as goal

pub returns : goal.returns
unfolding bad_shape bad_level bad_origin bad_weight
returns c = record {
  scales = record { same = refl; levels = refl; weight = refl };
  scales_heavy = λ S. true≢false S.weight;
  scales_short = λ S. omega (arith, S.same);
  placed = record { shape = refl; axis = omega arith; count = refl; same = refl; more = omega arith; few = omega arith; origin = refl; reach = refl };
  placed_one = λ P. omega (arith, P.more);
  weighs_heavy = λ W. true≢false W.small.weights;
}
