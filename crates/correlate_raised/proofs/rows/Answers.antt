-- `rows` meets its contract: every row holds by computing.
use mathlib.Core.Path.{refl}
use mathlib.Core.Bool.{true≢false}
use native.Mathlib.Omega.{arith}
use Rattle.numbers.specs.Windows.{window_of}
use Rattle.correlate_spec.specs.Weighed.{summed}
use Rattle.correlate_raised_terms.proofs.RaisedNumber.{below_none}
use Rattle.correlate_raised.proofs.rows.Goals as goal

pub returns : goal.returns
unfolding summed window_of
returns c = record {
  base = refl;
  start = refl;
  term = refl;
  sum = refl;
  liftable = record { few = omega arith; weights = refl; low = omega arith };
  liftable_many = λ l. omega (arith, l.few);
  liftable_large = λ l. true≢false l.weights;
  liftable_far = λ l. omega (arith, l.low);
  raisable = record {
    weighable = record { some = omega arith; few = omega arith; long = omega arith; short = omega arith; weights = refl; cells = refl };
    low = omega arith;
    weights = (record { to = 3; is = refl; small = omega arith }, (record { to = 0; is = refl; small = omega arith }, tt));
    cells = (record { to = 2147483652; is = refl; small = omega arith }, (record { to = 2147483657; is = refl; small = omega arith }, tt));
  };
  raisable_not = λ r. below_none {n = 0} refl r.weights.1.0;
}
