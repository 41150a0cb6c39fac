-- `add_row` meets its contract: along the row, each cell gets its next term.
use mathlib.Core.Path.{refl}
use Prim.Native.Nat.{◌+◌}
use lib.Ieee.{nan}
use Rattle.direction.specs.Direction.{directed}
use Rattle.correlate_spec.proofs.Along.{pass_none, pass_all}
use Rattle.correlate_line_f64.proofs.Turns.{plain_more, one-term}
use Rattle.correlate_line_f64.proofs.add.add_row.Goals as goal

pub loop-i-init : goal.loop-i-init
loop-i-init c = pass_none nan _ _

pub loop-i-preserved : goal.loop-i-preserved
loop-i-preserved c = let s = c in let a = s.args in
    let l = c.loop-i in let w = directed a.backward a.weights.now in let line = a.line.now in let j = a.j in
    plain_more w line j 1 s.requires.2 l.invariant c.loop-i-test.true (one-term w line l.i j (l.i + j) _ refl c.weight_at_f64-weight.ensures)

pub shape_of-out : goal.shape_of-out
shape_of-out c = c.loop-i.invariant.stored.kept

pub returns : goal.returns
returns c = pass_all c.loop-i.invariant c.loop-i-test.false
