-- `stride_of` meets its contract: the product of the lengths after the axis, of which there are at most two.
use mathlib.Core.Path.{sym, ap, ◌∙◌}
use mathlib.Core.Logic.{◌≢◌}
use Prim.Native.Nat.{ℕ, ◌*◌, ◌≤◌, suc}
use native.Mathlib.Nat.{mul-le-mul}
use native.Mathlib.Omega.{arith}
use lib.ListN.{length}
use Rattle.array_spec.specs.Grid.{stride_of}
use Rattle.array_spec.proofs.Shapes.{stride_zero, stride_one, stride_past}
use Rattle.lanes.proofs.stride_of.Goals as goal

pub overflow_mul-result : goal.overflow_mul-result
overflow_mul-result c =
    let s = c.before.before.before.before in
    let e = c.len_of.ensures in
    let f = c.len_of-then-axis-eq0.ensures in
    rw (e, f) (omega (arith, mul-le-mul (s.requires.1 1) (s.requires.1 2)))

pub returns-then-axis-eq0 : goal.returns-then-axis-eq0
returns-then-axis-eq0 c =
    let s = c.before.before.before.before in
    let ns = s.args.shape.now in
    (λ i. c.len_of.ensures i * c.len_of-then-axis-eq0.ensures i) ∙ sym (stride_zero ns s.requires.0) ∙ ap (stride_of ns) (sym c.if-axis-eq0.true)

pub returns-then-axis-eq1 : goal.returns-then-axis-eq1
returns-then-axis-eq1 c =
    let s = c.before.before.before.before in
    let ns = s.args.shape.now in
    c.len_of-then-axis-eq1.ensures ∙ sym (stride_one ns s.requires.0) ∙ ap (stride_of ns) (sym c.if-axis-eq1.true)

past : (n a : ℕ) → n ≤ 3 → a ≢ 0 → a ≢ 1 → n ≤ suc a
past n a h p q = omega arith

pub returns : goal.returns
returns c =
    let s = c.before.before.before in
    let ns = s.args.shape.now in
    sym (stride_past ns s.args.axis (past (length ns) s.args.axis s.requires.0 c.if-axis-eq0.false c.if-axis-eq1.false))
