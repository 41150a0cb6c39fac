-- `numeral` meets its contract: the token's number is that of the bytes that are left, after n.
use Prim.Native.Nat.{◌+◌, ◌*◌}
use native.Mathlib.Omega.{arith}
use mathlib.Core.Path.{◌≡◌, sym, ◌∙◌}
use Rattle.text_spec.proofs.Numerals.{byte_odd, byte_next, byte_beyond, from_end_lem}
use Rattle.text.proofs.read.numeral.Goals as goal

pub returns-then-d-base : goal.returns-then-d-base
returns-then-d-base c =
    byte_odd c.args.base c.loop-byte.n c.loop-byte.byte-index _ c.args.token.now _ c.loop-byte-test.true c.digit-d.ensures c.loop-byte.invariant.1
    c.if-d-base.true

pub returns-in_err-checked_mul : goal.returns-in_err-checked_mul
returns-in_err-checked_mul c =
    rw c.from_residual.ensures
    (byte_beyond c.args.base c.loop-byte.n c.loop-byte.byte-index _ c.args.token.now _ c.loop-byte-test.true c.digit-d.ensures c.loop-byte.invariant.1
    c.if-d-base.false (λ l. c.in_err-checked_mul.ensures (omega arith)))

pub returns-in_err-n : goal.returns-in_err-n
returns-in_err-n c =
    rw c.from_residual-in_err-n.ensures
    (byte_beyond c.args.base c.loop-byte.n c.loop-byte.byte-index _ c.args.token.now _ c.loop-byte-test.true c.digit-d.ensures c.loop-byte.invariant.1
    c.if-d-base.false (λ l. c.in_err-n.ensures (omega (arith, c.in_ok-checked_mul.ensures))))

pub loop-byte-preserved : goal.loop-byte-preserved
loop-byte-preserved c =
    let e : c.in_ok-n.n ≡ c.loop-byte.n * c.args.base + c.digit-d.result = omega (arith, c.in_ok-checked_mul.ensures, c.in_ok-n.ensures) in (
      omega (arith, c.in_ok-n.ensures),
      rw e
          (byte_next c.args.base c.loop-byte.n c.loop-byte.byte-index _ c.args.token.now _ c.loop-byte-test.true c.digit-d.ensures
          c.loop-byte.invariant.1 c.if-d-base.false),
    )

pub returns : goal.returns
returns c =
    sym (c.loop-byte.invariant.1 ∙ from_end_lem c.args.base c.loop-byte.n c.loop-byte.byte-index c.args.token.now (omega arith) c.loop-byte.invariant.0)
