-- `fill_around` meets its contract, by the laws of RowWalk and Gaps: each turn fills the gap before the next row of the grid, and the last one is what stands after all
-- rows. Assumes nothing.
use Prim.Native.Nat.{◌-◌}
use native.Mathlib.Omega.{arith}
use mir.Facts.{to_z-of_z}
use mir.Syntax.{w64}
use mathlib.Core.Path.{refl}
use Rattle.pad_middle.proofs.RowWalk.{axes_some, axes_few, last_in_lem, last_some, walk_none, walk_all, walk_row, walk_there, walk_target, walk_in, walk_few, walk_more}
use Rattle.pad_middle.proofs.Gaps.{around-none, around-more, around_end}
use Rattle.pad_middle.proofs.around.fill_around.Goals as goal

pub overflow_sub-last : goal.overflow_sub-last
overflow_sub-last c = axes_some c.requires.0

pub offset_bounds-shape-last : goal.offset_bounds-shape-last
offset_bounds-shape-last c = omega (arith, axes_few c.requires.0)

pub bounds-shape-last : goal.bounds-shape-last
bounds-shape-last c = last_in_lem c.requires.0

pub nonzero_div-rows : goal.nonzero_div-rows
nonzero_div-rows c = last_some c.requires.0

pub loop-row-init : goal.loop-row-init
loop-row-init c = (walk_none c.requires.0 c.requires.1 c.first_row-start.ensures, around-none _ _ _ _ c.requires.2)

pub fill_gap-requires : goal.fill_gap-requires
fill_gap-requires c = let v = c.loop-row.invariant in
    omega (arith, walk_in c.requires.0 v.0 c.loop-row-test.true, v.1.count, v.1.stored.kept)

pub overflow_add-done : goal.overflow_add-done
overflow_add-done c = let F = c.requires.0 in
    omega (arith, walk_in F c.loop-row.invariant.0 c.loop-row-test.true, F.small)

pub next_row-start-requires : goal.next_row-start-requires
next_row-start-requires c = let F = c.requires.0 in
    let W = c.loop-row.invariant.0 in (F, W.starts, walk_there F W c.loop-row-test.true)

pub loop-row-preserved : goal.loop-row-preserved
loop-row-preserved c = let F = c.requires.0 in let W = c.loop-row.invariant.0 in let b = c.loop-row-test.true in (
  walk_more F W b c.next_row-start.ensures,
  around-more _ _ _ _ c.loop-row.invariant.1 _ c.fill_gap.ensures F (walk_row F W b) (walk_target F W b) W.width,
)

pub returns : goal.returns
returns c = around_end _ _ _ _ c.loop-row.invariant.1 _ c.fill_gap-2.ensures c.requires.0
    (walk_all c.requires.0 c.loop-row.invariant.0 c.loop-row-test.false) refl (to_z-of_z {w = w64} c.ranges.level)
