-- `symmetry_state_i64` meets its contract: the length's parity, and then the answers of the two searches, give the class.
use lib.IntN.{pos}
use Rattle.symmetry_spec.specs.Class.{differ_z}
use Rattle.symmetry_spec.proofs.Steps.{class_even, class_first, class_second}
use Rattle.symmetry.proofs.symmetry_state_i64.Goals as goal

pub returns-then-weights-eq0 : goal.returns-then-weights-eq0
returns-then-weights-eq0 c = class_even differ_z (pos 0) c.args.weights.now c.if-weights-eq0.true

pub returns-in_default : goal.returns-in_default
returns-in_default c =
    class_first differ_z (pos 0) c.args.weights.now c.if-weights-eq0.false _ c.check_pairs_i64-state.ensures
    c.in_default.not-NonSymmetric

pub returns : goal.returns
returns c =
    class_second differ_z (pos 0) c.args.weights.now c.if-weights-eq0.false _
    c.check_pairs_i64-state.ensures _
    c.in-NonSymmetric.is c.check_pairs_i64.ensures
