-- `add_plane` meets its contract: each turn adds one row of the plane.
use mathlib.Core.Path.{sym, ◌∙◌}
use Prim.Native.Nat.{◌+◌, ◌-◌, ◌*◌, ◌<◌}
use native.Mathlib.Omega.{arith}
use Rattle.median_spec.proofs.Reach.{rows_few, row_in, row_small, part_long, part_room, part-added}
use Rattle.median_spec.proofs.Adding.{adding_none, adding_room, adding_more, adding_all}
use borrow.Author.Rules.{rules}
use Rattle.median_row.proofs.row.add_plane.Goals as goal

pub loop-y-init : goal.loop-y-init
loop-y-init c = adding_none _ _ _ _

pub overflow_mul-a : goal.overflow_mul-a
overflow_mul-a c = let s = c in omega (arith, rows_few s.requires.0)

pub overflow_add-a : goal.overflow_add-a
overflow_add-a c = let s = c in omega (arith, rows_few s.requires.0)

pub overflow_mul-a-in-loop-y : goal.overflow_mul-a-in-loop-y
overflow_mul-a-in-loop-y c = let s = c in omega (arith, row_small s.requires.0 _ ((let row_below : let s = c in s.args.x * s.args.rows + c.loop-y.y < s.args.x * s.args.rows + s.args.ys.to = search rules in row_below)))

pub overflow_add-a-in-loop-y : goal.overflow_add-a-in-loop-y
overflow_add-a-in-loop-y c = let s = c in omega (arith, row_small s.requires.0 _ ((let row_below : let s = c in s.args.x * s.args.rows + c.loop-y.y < s.args.x * s.args.rows + s.args.ys.to = search rules in row_below)))

pub slice_bounds-add_row-end : goal.slice_bounds-add_row-end
slice_bounds-add_row-end c = let s = c in row_in s.requires.0 _ ((let row_below : let s = c in s.args.x * s.args.rows + c.loop-y.y < s.args.x * s.args.rows + s.args.ys.to = search rules in row_below))

pub add_row-requires : goal.add_row-requires
add_row-requires c =
    let s = c in
    let l = c.loop-y in
    let h = (let row_below : let s = c in s.args.x * s.args.rows + c.loop-y.y < s.args.x * s.args.rows + s.args.ys.to = search rules in row_below) in
    (part_long s.requires.0 _ h ∙ sym l.invariant.kept, part_room s.requires.0 _ h l.counts l.invariant.kept (adding_room l.invariant (search rules) s.requires.1))

pub loop-y-preserved : goal.loop-y-preserved
loop-y-preserved c =
    let s = c in
    let l = c.loop-y in
    adding_more l.invariant (search rules) (c.add_row.ensures ∙ part-added s.requires.0 _ ((let row_below : let s = c in s.args.x * s.args.rows + c.loop-y.y < s.args.x * s.args.rows + s.args.ys.to = search rules in row_below)) l.counts l.invariant.kept)

pub shape_of-counts : goal.shape_of-counts
shape_of-counts c = c.loop-y.invariant.kept

pub returns : goal.returns
returns c = adding_all c.loop-y.invariant (search rules)
