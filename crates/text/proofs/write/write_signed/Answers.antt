-- `write_signed` meets its contract: a minus and the digits of the size after it, or the digits alone.
use native.Mathlib.Omega.{arith}
use lib.IntN.{nat_abs}
use mathlib.Core.Path.{ap, ◌∙◌}
use mir.Facts.{to_z-of_z}
use mir.Syntax.{w64}
use Rattle.numbers.proofs.Sign.{below_is, on_is}
use Rattle.text_spec.proofs.Digits.{places_most}
use Rattle.text_spec.proofs.Written.{written_below, written_on}
use Rattle.text.proofs.write.write_signed.Goals as goal

pub overflow_add-result : goal.overflow_add-result
overflow_add-result c = omega (arith, c.write_size.ensures.value, places_most 18 c.unsigned_abs.result)

pub returns-then-z-lt0 : goal.returns-then-z-lt0
returns-then-z-lt0 c =
    let a = c.args in
    let e = c.unsigned_abs.ensures.value ∙ ap nat_abs (to_z-of_z {w = w64} c.ranges.z) in
    let t = written_below a.z a.out.now _ _ _ c.if-out-lt-ROOM.false e c.write_size.ensures.value
    (below_is a.z c.ranges.z c.if-z-lt0.true) c.write_size.ensures.out_after in
    record { value = t.0; out_after = t.1 }

pub returns : goal.returns
returns c =
    let a = c.args in
    let e = c.unsigned_abs-2.ensures.value ∙ ap nat_abs (to_z-of_z {w = w64} c.ranges.z) in
    let t = written_on a.z a.out.now _ _ _ c.if-out-lt-ROOM.false e c.write_size-2.ensures.value
    (on_is a.z c.ranges.z c.if-z-lt0.false) c.write_size-2.ensures.out_after in
    record { value = t.0; out_after = t.1 }
