-- `copy_blocks` meets its contract: each turn fills the next blocks, which are a part of the grid.
use mathlib.Core.Path.{refl}
use Prim.Native.Nat.{◌+◌, ◌-◌, ◌*◌, ◌≤◌}
use native.Mathlib.Omega.{arith}
use lib.ListN.{length}
use Rattle.pad_copy_axis.proofs.RunByRun.{block_in}
use Rattle.pad_copy.proofs.FewBlocks.{filled_none, filled_more, filled-all, part_in_lem, part_runs}
use borrow.Author.Rules.{rules}
use Rattle.pad_copy.proofs.runs.copy_blocks.Goals as goal
use Rattle.pad_copy.proofs.runs.copy_blocks.Goals.{After-least-count}

pub loop-first-init : goal.loop-first-init
loop-first-init c = (filled_none _ _ _ _ _ _, search rules)

whole : (c : After-least-count) → let a = c.args in let l = c.loop-first in
    l.first * (a.p * a.s) + c.least-count.result * (a.p * a.s) ≤ length l.out
whole c = let l = c.loop-first in part_in_lem c.requires.0 l.invariant.0 c.least-count.result ((let more : c.loop-first.first + c.least-count.result ≤ c.args.blocks = omega (arith, c.least-count.ensures.0, c.loop-first-test.true) in more))

small : (c : After-least-count) → length c.loop-first.out ≤ 32768
small c = omega (arith, c.loop-first.invariant.0.stored.kept, c.requires.0.small)

one : (c : After-least-count) → let a = c.args in a.p * a.s ≤ 32768
one c =
    let s = c in
    omega (arith, block_in s.args.p s.args.s s.requires.0.whole c.loop-first-test.true, s.requires.0.small)

pub overflow_mul-a : goal.overflow_mul-a
overflow_mul-a c = omega (arith, one c)

pub overflow_mul-a-in-loop-first : goal.overflow_mul-a-in-loop-first
overflow_mul-a-in-loop-first c = omega (arith, whole c, small c)

pub overflow_mul-e : goal.overflow_mul-e
overflow_mul-e c = omega (arith, one c)

pub overflow_mul-e-in-loop-first : goal.overflow_mul-e-in-loop-first
overflow_mul-e-in-loop-first c = omega (arith, whole c, small c)

pub overflow_add-e : goal.overflow_add-e
overflow_add-e c = omega (arith, whole c, small c)

pub offset_bounds-out-a : goal.offset_bounds-out-a
offset_bounds-out-a c = omega (arith, whole c, small c)

pub slice_bounds-copy_rims-end : goal.slice_bounds-copy_rims-end
slice_bounds-copy_rims-end c = whole c

pub copy_rims-requires : goal.copy_rims-requires
copy_rims-requires c =
    let t = c in
    part_runs t.requires.0 t.loop-first.invariant.0 t.least-count.result ((let more : t.loop-first.first + t.least-count.result ≤ t.args.blocks = omega (arith, t.least-count.ensures.0, t.loop-first-test.true) in more))

pub overflow_add-first : goal.overflow_add-first
overflow_add-first c = omega (arith, (let more : c.loop-first.first + c.least-count.result ≤ c.args.blocks = omega (arith, c.least-count.ensures.0, c.loop-first-test.true) in more))

pub loop-first-smaller : goal.loop-first-smaller
loop-first-smaller c =
    let t = c in
    let i = t in
    let n = t.least-count.ensures.1 i.requires.1 (omega (arith, i.loop-first-test.true)) in
    omega (arith, n, (let more : t.loop-first.first + t.least-count.result ≤ t.args.blocks = omega (arith, t.least-count.ensures.0, t.loop-first-test.true) in more))

pub loop-first-preserved : goal.loop-first-preserved
loop-first-preserved c =
    let t = c in
    (filled_more t.requires.0 t.loop-first.invariant.0 t.least-count.result ((let more : t.loop-first.first + t.least-count.result ≤ t.args.blocks = omega (arith, t.least-count.ensures.0, t.loop-first-test.true) in more)) c.copy_rims.ensures refl, (let more : t.loop-first.first + t.least-count.result ≤ t.args.blocks = omega (arith, t.least-count.ensures.0, t.loop-first-test.true) in more))

pub returns : goal.returns
returns c = filled-all c.requires.0 c.loop-first.invariant.0 c.loop-first-test.false
