-- `start_four_rows` meets its contract: the row is filled from the front with sums of four terms.
use mathlib.Core.Path.{◌∙◌}
use native.Mathlib.Omega.{arith}
use lib.Ieee.{nan, of_bits}
use Rattle.direction.specs.Direction.{directed}
use Rattle.correlate_spec.specs.Weighed.{float_ops}
use Rattle.correlate_spec.proofs.Along.{pass_none, pass_more, pass_all}
use Rattle.correlate_line_f64.proofs.Turns.{plain-first, four_terms_lem}
use Rattle.correlate_line_f64.proofs.start.start_four_rows.Goals as goal

pub loop-i-preserved : goal.loop-i-preserved
unfolding of_bits
loop-i-preserved c =
    let a = c.args in
    let l = c.loop-i in
    let w = directed a.backward a.weights.now in
    pass_more l.invariant c.loop-i-test.true (c.four_more.ensures
    ∙ four_terms_lem w a.line.now l.i 0 l.i float_ops.none (omega arith) c.four_weights-four.ensures
    ∙ plain-first w a.line.now l.i 4)

pub loop-i-init : goal.loop-i-init
loop-i-init c = pass_none nan _ _

pub shape_of-out : goal.shape_of-out
shape_of-out c = c.loop-i.invariant.stored.kept

pub returns : goal.returns
returns c = pass_all c.loop-i.invariant c.loop-i-test.false
