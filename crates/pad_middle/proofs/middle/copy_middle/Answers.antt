-- `copy_middle` meets its contract, by the laws of RowWalk and Copied: the rows of the grid are stored one after the other, each at its target.
use Prim.Native.Nat.{◌-◌}
use native.Mathlib.Omega.{arith}
use Rattle.pad_spec.proofs.Room.{grid_accepted}
use Rattle.pad_middle.proofs.Copied.{rows_none, rows_more, rows_all}
use Rattle.pad_middle.proofs.RowWalk.{axes_some, axes_few, last_in_lem, last_some, walk_none, walk_row, walk_there, walk_target, walk_in, walk_read, walk_few, walk_more}
use Rattle.pad_middle.proofs.middle.copy_middle.Goals as goal

pub overflow_sub-last : goal.overflow_sub-last
overflow_sub-last c = axes_some c.requires.0

pub offset_bounds-shape-last : goal.offset_bounds-shape-last
offset_bounds-shape-last c = omega (arith, axes_few c.requires.0)

pub bounds-shape-last : goal.bounds-shape-last
bounds-shape-last c = last_in_lem c.requires.0

pub nonzero_div-rows : goal.nonzero_div-rows
nonzero_div-rows c = last_some c.requires.0

pub loop-row-init : goal.loop-row-init
loop-row-init c = (walk_none c.requires.0 c.requires.1 c.first_row-start.ensures, rows_none _ _ _ _ _)

pub overflow_mul-row : goal.overflow_mul-row
overflow_mul-row c = let F = c.requires.0 in omega (arith, walk_read F c.loop-row.invariant.0 c.loop-row-test.true, (grid_accepted F).small)

pub copy_row-requires : goal.copy_row-requires
copy_row-requires c = let F = c.requires.0 in let v = c.loop-row.invariant in let b = c.loop-row-test.true in (
  omega (arith, walk_read F v.0 b, c.requires.1),
  omega (arith, walk_in F v.0 b, v.1.stored.kept, c.requires.2),
  omega (arith, v.1.stored.kept, c.requires.2, F.small),
)

pub next_row-start-requires : goal.next_row-start-requires
next_row-start-requires c = let F = c.requires.0 in
    let W = c.loop-row.invariant.0 in (F, W.starts, walk_there F W c.loop-row-test.true)

pub loop-row-preserved : goal.loop-row-preserved
loop-row-preserved c = let F = c.requires.0 in
    let l = c.loop-row in let W = l.invariant.0 in let b = c.loop-row-test.true in (
      walk_more F W b c.next_row-start.ensures,
      rows_more _ _ _ F l.row (walk_row F W b) c.requires.2 W.width (walk_target F W b) l.invariant.1 c.copy_row.ensures,
    )

pub shape_of-out : goal.shape_of-out
shape_of-out c = c.loop-row.invariant.1.stored.kept

pub returns : goal.returns
returns c = rows_all _ _ _ c.requires.0 c.requires.2 (omega (arith, c.loop-row.invariant.0.count)) c.loop-row.invariant.1
