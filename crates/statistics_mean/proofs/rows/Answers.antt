-- `rows` meets its contract: every row holds by computing.
use Rattle.std.proofs.Common.{nat_abs, sym, refl, ap, true≢false, arith}
use Rattle.statistics_mean.proofs.rows.Goals as goal

pub returns : goal.returns
returns c = record {
  near_two = record { near = refl; is = refl; small = omega arith };
  near_below = record { near = refl; is = refl; small = omega arith };
  near_none = record { near = refl; is = refl; small = omega arith };
  near_limits = record { near = refl; is = refl; small = omega arith };
  far_above = λ sum n. true≢false n.near;
  far_below = λ sum n. true≢false n.near;
  sum_only = λ sum n. sym (ap nat_abs n.is);
}
