-- `check_pairs_i64` meets its contract. The loop's invariant: no pair at a smaller distance differs, and the state is the one
-- handed in. The measure is how many distances are left.
use mathlib.Core.Path.{◌∙◌}
use native.Mathlib.Omega.{arith}
use Rattle.symmetry_spec.proofs.Bits.{differs_read}
use Rattle.symmetry_spec.proofs.Search.{passed_none, passed_more, passed_all, passed_last, passed_hit}
use Rattle.symmetry.proofs.check_pairs_i64.Goals as goal

pub loop-i-init : goal.loop-i-init
loop-i-init c = passed_none _ _ _ _ _

pub loop-i-preserved : goal.loop-i-preserved
loop-i-preserved c =
    let l = c.loop-i in
    let a = c.args in
    passed_more _ _ _ _ _ l.found-1 l.i l.invariant (omega arith)
    (differs_read a.turned _ a.weights.now _ l.i c.differ_i64-arg-1.given c.differ_i64-arg-in-loop-i-1.given
    c.differ_i64.ensures ∙ c.if-differ_i64.false)

pub returns : goal.returns
returns c = let l = c.loop-i in passed_all _ _ _ _ _ l.found-1 l.i l.invariant (omega arith)

pub returns-then-differ_i64 : goal.returns-then-differ_i64
returns-then-differ_i64 c =
    let l = c.loop-i in
    let a = c.args in
    passed_hit _ _ _ _ _ l.found-1 l.i l.invariant (omega arith)
    (differs_read a.turned _ a.weights.now _ l.i c.differ_i64-arg-1.given c.differ_i64-arg-in-loop-i-1.given
    c.differ_i64.ensures ∙ c.if-differ_i64.true)

pub returns-else-differ_i64 : goal.returns-else-differ_i64
returns-else-differ_i64 c =
    let l = c.loop-i in
    let a = c.args in
    passed_last _ _ _ _ _ l.found-1 l.i l.invariant (omega arith)
    (differs_read a.turned _ a.weights.now _ l.i c.differ_i64-arg-1.given c.differ_i64-arg-in-loop-i-1.given
    c.differ_i64.ensures ∙ c.if-differ_i64.false)
