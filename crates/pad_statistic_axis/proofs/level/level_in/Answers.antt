-- `level_in` meets its contract: a lane of cells side by side is a part of the grid; else the front of the line is as long as the lane.
use mathlib.Core.Path.{sym, ap, ◌∙◌}
use Prim.Native.Nat.{ℕ, ◌+◌, ◌≤◌}
use native.Mathlib.Omega.{arith}
use lib.IntN.{pos}
use lib.ListN.{length}
use lib.Seq.{length-take-le}
use Rattle.numbers.proofs.Read.{read}
use Rattle.pad_spec.specs.Fill.{statistic_of}
use Rattle.pad_spec.proofs.Rims.{own_of}
use Rattle.pad_spec.proofs.Serves.{beside_whole, own_beside}
use Rattle.pad_statistic_axis.proofs.level.level_in.Goals as goal
use Rattle.pad_statistic_axis.proofs.level.level_in.Goals.{Then-s-eq1}

-- the own cells of a lane of cells side by side are in the grid
beside : (c : Then-s-eq1) → let a = c.args in a.base + a.left + a.n ≤ length a.grid.now
beside c = let s = c in beside_whole s.args.p s.args.s s.args.l s.args.left s.args.n s.args.grid.now c.if-s-eq1.true s.requires.1 s.requires.0 s.requires.2

pub overflow_add-a : goal.overflow_add-a
overflow_add-a c = omega (arith, beside c)

pub overflow_add-e : goal.overflow_add-e
overflow_add-e c = omega (arith, beside c)

pub offset_bounds-grid-a : goal.offset_bounds-grid-a
offset_bounds-grid-a c = omega (arith, beside c)

pub slice_bounds-level_of-end : goal.slice_bounds-level_of-end
slice_bounds-level_of-end c = beside c

pub returns-then-s-eq1 : goal.returns-then-s-eq1
returns-then-s-eq1 c =
    let s = c in
    let a = s.args in
    read c.level_of.type_inv
    (c.level_of.ensures
    ∙ ap (statistic_of a.statistic) (own_beside a.p a.s a.l a.left a.n a.grid.now c.if-s-eq1.true s.requires.1 s.requires.0 s.requires.2))

pub slice_bounds-level_by-end : goal.slice_bounds-level_by-end
slice_bounds-level_by-end c = (let lent : let a = c.args in a.p ≤ length a.line.now = c.requires.3 c.if-s-eq1.false in lent)

pub slice_bounds-level_by-end-2 : goal.slice_bounds-level_by-end-2
slice_bounds-level_by-end-2 c = let s = c in sym (length-take-le s.args.p s.args.line.now ((let lent : let a = c.args in a.p ≤ length a.line.now = c.requires.3 c.if-s-eq1.false in lent)))

pub level_by-requires : goal.level_by-requires
level_by-requires c = let s = c in rw (length-take-le s.args.p s.args.line.now ((let lent : let a = c.args in a.p ≤ length a.line.now = c.requires.3 c.if-s-eq1.false in lent))) (s.requires.0, s.requires.2)

pub returns : goal.returns
returns c =
    let s = c in
    let a = s.args in
    read c.level_by.type_inv
    (c.level_by.ensures
    ∙ ap (λ (m : ℕ). statistic_of a.statistic (own_of (pos 0) m a.s a.l a.left a.n a.grid.now)) (length-take-le a.p a.line.now ((let lent : let a = c.args in a.p ≤ length a.line.now = c.requires.3 c.if-s-eq1.false in lent))))
