-- `set_row` meets its contract: the row is filled from the front with terms.
use native.Mathlib.Omega.{arith}
use lib.Ieee.{nan}
use Rattle.correlate_spec.specs.Weighed.{float_ops}
use Rattle.correlate_spec.proofs.Along.{pass_none, pass_more, pass_all}
use Rattle.correlate_pairs_f64.proofs.Parts.{length_part, get_d_part}
use Rattle.correlate_pairs_f64.proofs.pairs.set_row.Goals as goal

pub loop-i-init : goal.loop-i-init
loop-i-init c = pass_none nan _ _

pub bounds-cells-i : goal.bounds-cells-i
bounds-cells-i c = let p = c in let s = p in
    omega (arith, length_part s.requires 0 s.requires.some p.window_f64-cells.ensures)

pub loop-i-preserved : goal.loop-i-preserved
loop-i-preserved c = let p = c in let s = p in let l = c.loop-i in
    pass_more l.invariant c.loop-i-test.true
    (λ t. float_ops.product (get_d_part s.requires 0 s.requires.some p.window_f64-cells.ensures l.i (omega arith) t) (p.weight_at_f64-weight.ensures t))

pub shape_of-out : goal.shape_of-out
shape_of-out c = c.loop-i.invariant.stored.kept

pub returns : goal.returns
returns c = pass_all c.loop-i.invariant c.loop-i-test.false
