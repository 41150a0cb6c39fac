-- `row_for` meets its contract: a source is −1 or a number of at most 1,024.
use mathlib.Core.Path.{sym, ap, ◌∙◌}
use Prim.Native.Nat.{◌+◌, ◌*◌, ◌≤◌}
use native.Mathlib.Nat.{mul-le-mul}
use native.Mathlib.Omega.{arith}
use lib.IntN.{ℤ, nat_abs}
use mir.Syntax.{w64}
use mir.Val.{to_z, of_z}
use mir.ValLaws.{to_z-of_z}
use Rattle.numbers.proofs.Sign.{below_is, on_is, on_read, on_casts}
use Rattle.correlate_grid_row.specs.ByRows.{row_for}
use Rattle.correlate_grid_row.proofs.row.row_for.Goals as goal

pub returns-then-i-lt0 : goal.returns-then-i-lt0
returns-then-i-lt0 c = let a = c.args in sym (ap (λ (z : ℤ). row_for z a.j a.per a.none) (below_is _ c.ranges.i c.if-i-lt0.true))

pub returns-then-j-lt0 : goal.returns-then-j-lt0
returns-then-j-lt0 c = let s = c in
    let a = s.args in
    sym (λ t. row_for (on_is _ s.ranges.i c.if-i-lt0.false t) (below_is _ s.ranges.j c.if-j-lt0.true t) a.per a.none)

pub overflow_cast-a : goal.overflow_cast-a
overflow_cast-a c = on_casts _ c.ranges.i c.if-i-lt0.false

pub overflow_cast-b : goal.overflow_cast-b
overflow_cast-b c = on_casts _ c.ranges.j c.if-j-lt0.false

pub overflow_mul-result : goal.overflow_mul-result
overflow_mul-result c = let s = c in
    let e = ap nat_abs (to_z-of_z w64 s.args.i s.ranges.i) in
    let h : nat_abs (to_z w64 (of_z w64 s.args.i)) ≤ 1024 = omega (arith, e, s.requires.0) in
    omega (arith, mul-le-mul h s.requires.2)

pub overflow_add-result : goal.overflow_add-result
overflow_add-result c = let s = c in
    let e = ap nat_abs (to_z-of_z w64 s.args.i s.ranges.i) in
    let f = ap nat_abs (to_z-of_z w64 s.args.j s.ranges.j) in
    let h : nat_abs (to_z w64 (of_z w64 s.args.i)) ≤ 1024 = omega (arith, e, s.requires.0) in
    omega (arith, mul-le-mul h s.requires.2, f, s.requires.1)

pub returns : goal.returns
returns c = let s = c in
    let a = s.args in
    (λ t. nat_abs (on_read _ s.ranges.i c.if-i-lt0.false t) * a.per + nat_abs (on_read _ s.ranges.j c.if-j-lt0.false t))
    ∙ sym (λ t. row_for (on_is _ s.ranges.i c.if-i-lt0.false t) (on_is _ s.ranges.j c.if-j-lt0.false t) a.per a.none)
