-- `rows` meets its contract: every row holds by computing.
use mathlib.Core.Path.{refl}
use mathlib.Core.Bool.{true≢false}
use native.Mathlib.Omega.{arith}
use Rattle.array_spec.specs.Conditions.{bad_shape, bad_level}
use Rattle.correlate_grid.proofs.rows.Goals as goal

pub returns : goal.returns
unfolding bad_shape bad_level
returns c = record {
  called = record {
    shape = refl;
    count = refl;
    same = refl;
    some = omega arith;
    narrow = omega arith;
    many = refl;
    wide = omega arith;
    pads = omega arith;
    fills_left = λ a h. refl;
    fills_right = λ a h. refl;
    weights = refl;
    level = refl;
    levels = refl;
  };
  called_few = λ K. omega (arith, K.many);
  called_heavy = λ K. true≢false K.weights;
  called_wide = λ w K. omega (arith, K.wide);
}
