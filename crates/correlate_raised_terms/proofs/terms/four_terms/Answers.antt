-- `four_terms` meets its contract: the four products fit, in one sum.
use native.Mathlib.Omega.{arith}
use lib.IntN.{◌+ℤ◌}
use Rattle.correlate_raised_terms.proofs.terms.four_terms.Goals as goal

pub returns : goal.returns
returns c =
    let t0 = c.raised_term-t0.ensures in
    let t1 = c.raised_term-t1.ensures in
    let t2 = c.raised_term-t2.ensures in
    let t3 = c.raised_term-t3.ensures in
    ((λ t. t0.0 t +ℤ t1.0 t +ℤ t2.0 t +ℤ t3.0 t), omega (arith, t0.1, t1.1, t2.1, t3.1))
