-- `start_pairs` meets its contract: the row is filled from the front with the middle terms and those of the outermost pair.
use mathlib.Core.Path.{ap, sym}
use Prim.Native.Nat.{◌/◌}
use native.Mathlib.Omega.{arith}
use lib.Ieee.{nan}
use Rattle.direction.specs.Direction.{directed}
use Rattle.direction.proofs.Directed.{directed-length}
use Rattle.correlate_spec.proofs.Along.{pass_none, pass_more, pass_all}
use Rattle.correlate_pairs_f64.proofs.Turns.{first-pair}
use Rattle.correlate_pairs_f64.proofs.pairs.start_pairs.Goals as goal

pub loop-i-init : goal.loop-i-init
loop-i-init c = pass_none nan _ _

pub loop-i-preserved : goal.loop-i-preserved
loop-i-preserved c = let f = c in let s = f in let a = s.args in let l = c.loop-i in
    let w = directed a.backward a.weights.now in let e = directed-length a.backward a.weights.now in
    pass_more l.invariant c.loop-i-test.true
    (first-pair w a.line.now a.minus l.i _ _ (ap (λ k. k / 2) (sym e)) (omega (arith, e))
    f.weight_at_f64-middle.ensures f.left_weight-outer.ensures c.pair_term.ensures)

pub shape_of-out : goal.shape_of-out
shape_of-out c = c.loop-i.invariant.stored.kept

pub returns : goal.returns
returns c = pass_all c.loop-i.invariant c.loop-i-test.false
