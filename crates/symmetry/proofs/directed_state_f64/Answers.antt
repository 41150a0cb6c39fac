-- `directed_state_f64` meets its contract: the length's parity, and then the answers of the two searches, give the class.
use lib.Ieee.{nan}
use Rattle.direction.specs.Direction.{directed}
use Rattle.direction.proofs.Directed.{directed-length}
use Rattle.symmetry_spec.specs.Class.{differ_f}
use Rattle.symmetry_spec.proofs.Steps.{class_even, class_first, class_second}
use Rattle.symmetry.proofs.directed_state_f64.Goals as goal

pub returns-then-weights-eq0 : goal.returns-then-weights-eq0
returns-then-weights-eq0 c =
    let a = c.args in
    class_even differ_f nan (directed a.backward a.weights.now) (rw (directed-length a.backward a.weights.now) c.if-weights-eq0.true)

pub returns-in_default : goal.returns-in_default
returns-in_default c =
    let a = c.args in
    class_first differ_f nan (directed a.backward a.weights.now) (rw (directed-length a.backward a.weights.now) c.if-weights-eq0.false) _
    c.check_pairs_f64-state.ensures c.in_default.not-NonSymmetric

pub returns : goal.returns
returns c =
    let a = c.args in
    class_second differ_f nan (directed a.backward a.weights.now) (rw (directed-length a.backward a.weights.now) c.if-weights-eq0.false) _
    c.check_pairs_f64-state.ensures _ c.in-NonSymmetric.is c.check_pairs_f64.ensures
