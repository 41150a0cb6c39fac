-- `capi::grids::suvvokal_sobel` meets its contract: the library's answers, or the refusal of an unknown code.
use mathlib.Core.Path.{◌∙◌}
use mathlib.Core.Path.{refl}
use lib.IntN.{pos}
use Rattle.numbers.proofs.Tests.{condition_is}
use Rattle.gradient_spec.specs.Gradient.{sobel_weights}
use Rattle.codes.proofs.Coded.{scratch_known, scratch_unknown}
use Rattle.capi.proofs.grids.suvvokal_sobel.Goals as goal

pub returns-then-unknown_any : goal.returns-then-unknown_any
returns-then-unknown_any c =
    let m = c.modes_of-modes.ensures in
    let u = condition_is c.unknown_any.ensures c.if-unknown_any.true in
    scratch_unknown (pos 0) _ _ (tt, (tt, (tt, (tt, (tt, (tt, (tt, tt))))))) u
    (rw m at (c.judge_gradient-judged.ensures sobel_weights (record { three = refl; small = refl }))) (rw c.answer_number.ensures at c.unknown_after.ensures)

pub returns : goal.returns
returns c =
    let m = c.modes_of-modes.ensures in
    let u = condition_is c.unknown_any.ensures c.if-unknown_any.false in
    rw c.answer_number-2.ensures (scratch_known (pos 0) _ u (rw m at c.sobel.ensures))
