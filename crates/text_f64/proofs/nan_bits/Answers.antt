-- `nan_bits` meets its contract: the tests are those of the definition.
use mathlib.Core.Path.{refl}
use borrow.Author.Tests.{eq-eqb, ne_eqb}
use lib.Ieee.{nan_bits}
use Rattle.text_f64.proofs.nan_bits.Goals as goal

pub returns-then-n-eq2047 : goal.returns-then-n-eq2047
unfolding nan_bits
returns-then-n-eq2047 c = rw (eq-eqb _ 2047 c.if-n-eq2047.true) refl

pub returns-else-n-eq2047 : goal.returns-else-n-eq2047
unfolding nan_bits
returns-else-n-eq2047 c = rw (ne_eqb _ 2047 c.if-n-eq2047.false) refl
