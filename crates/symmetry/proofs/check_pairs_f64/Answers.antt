-- `check_pairs_f64` meets its contract. The loop's invariant: no pair at a smaller distance differs, and the state is the one
-- handed in. The measure is how many distances are left.
use mathlib.Core.Path.{◌≡◌, sym, ◌∙◌}
use mathlib.Core.Bool.{Bool}
use native.Mathlib.Omega.{arith}
use lib.Ieee.{Float}
use Rattle.direction.proofs.Directed.{directed-length}
use Rattle.symmetry_spec.specs.Class.{differ_f}
use Rattle.symmetry_spec.proofs.Search.{passed_none, passed_more, passed_all, passed_last, passed_hit}
use Rattle.symmetry.proofs.check_pairs_f64.Goals as goal

-- what is known of the two weights that were read is known of the pair
told : (turned : Bool) {r b : Bool} {x y right left : Float} → x ≡ right → y ≡ left → r ≡ differ_f turned x y → r ≡ b → differ_f turned right left ≡ b
told turned p q e k = sym (e ∙ (λ t. differ_f turned (p t) (q t))) ∙ k

pub loop-i-init : goal.loop-i-init
loop-i-init c = passed_none _ _ _ _ _

pub loop-i-preserved : goal.loop-i-preserved
loop-i-preserved c =
    let d = c in
    let l = d.loop-i in
    let a = d.args in
    passed_more _ _ _ _ _ l.found-1 l.i l.invariant (omega arith)
    (told a.turned d.weight_at_f64-right.ensures d.weight_at_f64-left.ensures d.differ_f64.ensures c.if-differ_f64.false)

pub returns : goal.returns
returns c =
    let a = c.args in
    let l = c.loop-i in
    rw (directed-length a.backward a.weights.now) (passed_all _ _ _ _ _ l.found-1 l.i l.invariant (omega arith))

pub returns-then-differ_f64 : goal.returns-then-differ_f64
returns-then-differ_f64 c =
    let d = c in
    let l = d.loop-i in
    let a = d.args in
    rw (directed-length a.backward a.weights.now) (passed_hit _ _ _ _ _ l.found-1 l.i l.invariant (omega arith)
    (told a.turned d.weight_at_f64-right.ensures d.weight_at_f64-left.ensures d.differ_f64.ensures c.if-differ_f64.true))

pub returns-else-differ_f64 : goal.returns-else-differ_f64
returns-else-differ_f64 c =
    let d = c in
    let l = d.loop-i in
    let a = d.args in
    rw (directed-length a.backward a.weights.now) (passed_last _ _ _ _ _ l.found-1 l.i l.invariant (omega arith)
    (told a.turned d.weight_at_f64-right.ensures d.weight_at_f64-left.ensures d.differ_f64.ensures c.if-differ_f64.false))
