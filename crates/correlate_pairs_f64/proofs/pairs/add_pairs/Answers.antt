-- `add_pairs` meets its contract: along the row, each cell gets the term of its next pair.
use lib.Ieee.{nan}
use Rattle.direction.specs.Direction.{directed}
use Rattle.direction.proofs.Directed.{directed-length}
use Rattle.correlate_spec.proofs.Along.{pass_none, pass_all}
use Rattle.correlate_pairs_f64.proofs.Turns.{pairs_more, one-pair}
use Rattle.correlate_pairs_f64.proofs.pairs.add_pairs.Goals as goal

pub loop-i-init : goal.loop-i-init
loop-i-init c = pass_none nan _ _

pub loop-i-preserved : goal.loop-i-preserved
loop-i-preserved c = let s = c in let a = s.args in
    let l = c.loop-i in let w = directed a.backward a.weights.now in let line = a.line.now in
    pairs_more w line a.minus a.left 1 s.requires.3 l.invariant c.loop-i-test.true
    (one-pair w line a.minus l.i a.left a.right _ (rw (directed-length a.backward a.weights.now) s.requires.2)
    c.left_weight-shared.ensures c.pair_term.ensures)

pub shape_of-out : goal.shape_of-out
shape_of-out c = c.loop-i.invariant.stored.kept

pub returns : goal.returns
returns c = pass_all c.loop-i.invariant c.loop-i-test.false
