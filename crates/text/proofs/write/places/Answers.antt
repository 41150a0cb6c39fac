-- `places` meets its contract: the power is above every number of as many digits as were counted.
use native.Mathlib.Omega.{arith}
use Rattle.text_spec.proofs.Digits.{count_more, count_fits, count_end_lem, count_all}
use Rattle.text.proofs.write.places.Goals as goal

pub returns-then-n-power : goal.returns-then-n-power
returns-then-n-power c = count_end_lem c.loop-k.invariant c.if-n-power.true

pub overflow_mul-power : goal.overflow_mul-power
overflow_mul-power c = omega (arith, count_fits c.loop-k.invariant c.loop-k-test.true)

pub loop-k-preserved : goal.loop-k-preserved
loop-k-preserved c = count_more c.loop-k.invariant c.loop-k-test.true c.if-n-power.false

pub returns : goal.returns
returns c = omega (arith, count_all c.loop-k.invariant c.loop-k-test.false)
