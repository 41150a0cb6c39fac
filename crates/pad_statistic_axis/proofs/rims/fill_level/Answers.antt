-- `fill_level` meets its contract: each turn stores the level at the next place of a rim; the lane's own cells are never changed.
use mathlib.Core.Path.{refl, ap, ◌∙◌}
use Prim.Native.Nat.{◌+◌, ◌*◌, ◌-◌, ◌<◌}
use native.Mathlib.Omega.{arith}
use borrow.Author.Rules.{rules}
use lib.IntN.{ℤ, pos}
use lib.ListN.{length}
use Rattle.numbers.proofs.Read.{read}
use Rattle.lanes.specs.Lanes.{with_lane}
use Rattle.border.specs.Border.{constant}
use Rattle.pad_line.specs.Line.{padded_line}
use Rattle.pad_spec.proofs.Rims.{own_of, filled_none, cell_in, inside-kept, before_constant, after_constant, filled_again, filled-joined, filled-all}
use Rattle.pad_statistic_axis.proofs.rims.fill_level.Goals as goal
use Rattle.pad_statistic_axis.proofs.rims.fill_level.Goals.{In-loop-j, In-loop-k}

at_in : (c : In-loop-k) → let a = c in a.args.base + c.loop-k.k * a.args.s < length a.args.out.now
at_in c = let a = c in cell_in c.loop-k.invariant a.requires.0 a.requires.1 c.loop-k.k (omega arith)

pub overflow_mul-at : goal.overflow_mul-at
overflow_mul-at c = omega (arith, at_in c)

pub overflow_add-at : goal.overflow_add-at
overflow_add-at c = omega (arith, at_in c)

pub offset_bounds-out-at : goal.offset_bounds-out-at
offset_bounds-out-at c = omega (arith, at_in c)

pub bounds-out-at : goal.bounds-out-at
bounds-out-at c = omega (arith, at_in c, c.loop-k.invariant.stored.kept)

pub loop-k-preserved : goal.loop-k-preserved
loop-k-preserved c = let a = c in before_constant c.loop-k.invariant a.requires.0 a.requires.1 a.requires.2 _ (omega arith) refl

pub loop-j-init : goal.loop-j-init
loop-j-init c =
    let s = c in
    let F = c.loop-k.invariant in
    (inside-kept F s.requires.0, filled_again F s.requires.0 s.requires.1 s.requires.2 (omega arith))

at-in-2 : (c : In-loop-j) → let a = c in a.args.base + c.loop-j.j * a.args.s < length a.args.out.now
at-in-2 c =
    let a = c in
    let l = c.loop-j in
    omega (arith, cell_in l.invariant.1 l.invariant.0 a.requires.1 l.j (omega arith), c.loop-k.invariant.stored.kept)

pub overflow_mul-at-in-loop-j : goal.overflow_mul-at-in-loop-j
overflow_mul-at-in-loop-j c = omega (arith, at-in-2 c)

pub overflow_add-at-in-loop-j : goal.overflow_add-at-in-loop-j
overflow_add-at-in-loop-j c = omega (arith, at-in-2 c)

pub offset_bounds-out-at-in-loop-j : goal.offset_bounds-out-at-in-loop-j
offset_bounds-out-at-in-loop-j c = omega (arith, at-in-2 c)

pub bounds-out-at-in-loop-j : goal.bounds-out-at-in-loop-j
bounds-out-at-in-loop-j c = omega (arith, at-in-2 c, c.loop-j.invariant.1.stored.kept, c.loop-k.invariant.stored.kept)

pub loop-j-preserved : goal.loop-j-preserved
loop-j-preserved c =
    let a = c in
    let l = c.loop-j in
    (l.invariant.0, after_constant l.invariant.1 l.invariant.0 a.requires.1 a.requires.2 _ (omega arith) (omega arith) refl)

pub returns : goal.returns
returns c =
    let s = c in
    let a = s.args in
    let e = read s.ranges.c.sfits refl in
    filled-all (filled-joined c.loop-k.invariant s.requires.0 s.requires.1 s.requires.2 (omega arith) (omega arith) c.loop-j.invariant.1)
    s.requires.0 s.requires.1 s.requires.2 (omega arith)
    ∙ ap (λ (z : ℤ). with_lane (pos 0) a.p a.s a.l (padded_line (pos 0) (constant z) a.left (a.p - (a.left + a.n)) (own_of (pos 0) a.p a.s a.l a.left a.n a.out.now))
    a.out.now) e
