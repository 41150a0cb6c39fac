-- `rows` meets its contract: every row holds by computing.
use mathlib.Core.Path.{refl, sym, ap}
use native.Mathlib.Omega.{arith}
use lib.IntN.{nat_abs}
use Rattle.correlate_raised_terms.specs.Narrow.{raise_of}
use Rattle.correlate_raised_terms.proofs.RaisedNumber.{below_none, above_most}
use Rattle.correlate_raised_terms.proofs.rows.Goals as goal

pub returns : goal.returns
unfolding raise_of
returns c = record {
  raise = refl;
  raised = record { to = 1; is = refl; small = omega arith };
  raised_low = below_none {n = 0} refl;
  raised_high = above_most {n = 10} refl (omega arith);
  narrow = (record { to = 0; is = refl; small = omega arith }, (record { to = 4294967295; is = refl; small = omega arith }, tt));
  narrow_low = λ r. below_none {n = 0} refl r.1.0;
  narrow_high = λ r. above_most {n = 4294967296} refl (omega arith) r.0;
  unraised = refl;
  weight = record { is = refl; small = omega arith };
  weight_only = λ v r. sym (ap nat_abs r.is);
  one_product = refl;
  four_products_lem = refl;
}
