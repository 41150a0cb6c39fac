-- `correlate_grid::cells::correlate_rows` meets its contract: each turn stores the sums of one row.
use mathlib.Core.Path.{refl, sym, ◌∙◌}
use Prim.Native.Nat.{◌*◌, ◌<◌}
use native.Mathlib.Nat.{mod-lt, div-lt_iff_lt-mul}
use native.Mathlib.Omega.{arith}
use Rattle.correlate_grid.proofs.EveryRow.{storing_none, row_room, part_long, storing_more, storing_all}
use Rattle.correlate_grid_row.proofs.KernelRow.{rows_few}
use borrow.Author.Rules.{rules}
use Rattle.correlate_grid.proofs.cells.correlate_rows.Goals as goal

pub overflow_mul-count : goal.overflow_mul-count
overflow_mul-count c = omega (arith, rows_few c.requires.0.laid)

pub loop-r-init : goal.loop-r-init
loop-r-init c = let s = c in storing_none s.requires.0.laid s.requires.1 s.requires.2

pub overflow_mul-a : goal.overflow_mul-a
overflow_mul-a c = let s = c in let l = c.loop-r in omega (arith, row_room s.requires.0.laid l.invariant (search rules), l.invariant.kept, s.requires.0.laid.small)

pub overflow_add-e : goal.overflow_add-e
overflow_add-e c = let s = c in let l = c.loop-r in omega (arith, row_room s.requires.0.laid l.invariant (search rules), l.invariant.kept, s.requires.0.laid.small)

pub nonzero_div-r : goal.nonzero_div-r
nonzero_div-r c = c.requires.0.laid.rows.some

pub nonzero_rem-r : goal.nonzero_rem-r
nonzero_rem-r c = c.requires.0.laid.rows.some

pub offset_bounds-out-a : goal.offset_bounds-out-a
offset_bounds-out-a c = let s = c in let l = c.loop-r in omega
    (arith, row_room s.requires.0.laid l.invariant (search rules), l.invariant.kept, s.requires.0.laid.small)

pub slice_bounds-correlate_row-end : goal.slice_bounds-correlate_row-end
slice_bounds-correlate_row-end c = let s = c in let l = c.loop-r in row_room s.requires.0.laid l.invariant (search rules)

pub correlate_row-requires : goal.correlate_row-requires
correlate_row-requires c = let s = c in
    let l = c.loop-r in
    let y = s.requires.0.laid.rows.some in
    let h : l.r < s.args.axes.planes.len * s.args.axes.rows.len = search rules in
    (s.requires.0, (div-lt_iff_lt-mul y).1 h, mod-lt l.r y, l.invariant.line_long, part_long s.requires.0.laid l.invariant h)

pub loop-r-preserved : goal.loop-r-preserved
loop-r-preserved c = let s = c in
    let k = c.correlate_row in
    storing_more s.requires.0.laid c.loop-r.invariant (search rules) k.auto.line k.ensures refl

pub shape_of-line : goal.shape_of-line
shape_of-line c = c.loop-r.invariant.line_long ∙ sym c.requires.1

pub shape_of-out : goal.shape_of-out
shape_of-out c = c.loop-r.invariant.kept ∙ sym c.requires.2

pub returns : goal.returns
returns c = storing_all c.requires.0.laid c.loop-r.invariant (omega arith)
