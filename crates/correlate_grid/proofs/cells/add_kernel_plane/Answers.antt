-- `correlate_grid::cells::add_kernel_plane` meets its contract: each turn adds the sums of the kernel plane's next row.
use mathlib.Core.Path.{sym, ◌∙◌}
use Prim.Native.Nat.{◌+◌, ◌*◌, ◌<◌}
use native.Mathlib.Nat.{add-mul}
use native.Mathlib.Omega.{arith}
use Rattle.lanes.proofs.Cells.{step_le}
use Rattle.correlate_grid.proofs.Directed.{mapped_directed}
use Rattle.correlate_grid_row.proofs.KernelRow.{rows_few, kernel_few}
use Rattle.correlate_grid_axes.proofs.Sources.{place_in, table_held}
use Rattle.correlate_grid.proofs.Turn.{kernel_in, reading, summing_more}
use Rattle.correlate_grid.proofs.EveryRow.{summing_start, summing_length, summing_to}
use borrow.Author.Rules.{rules}
use Rattle.correlate_grid.proofs.cells.add_kernel_plane.Goals as goal

pub overflow_add-plane : goal.overflow_add-plane
overflow_add-plane c = let s = c in omega (arith, place_in s.requires.0.laid.planes s.requires.0.planes s.requires.1 s.requires.3, s.requires.0.planes.long)

pub bounds-first-p : goal.bounds-first-p
bounds-first-p c = let s = c in place_in s.requires.0.laid.planes s.requires.0.planes s.requires.1 s.requires.3

pub overflow_mul-none : goal.overflow_mul-none
overflow_mul-none c = omega (arith, rows_few c.requires.0.laid)

pub overflow_mul-q : goal.overflow_mul-q
overflow_mul-q c = let s = c in omega (arith, step_le s.args.axes.rows.side s.requires.3, kernel_few s.requires.0.laid)

pub loop-j-init : goal.loop-j-init
loop-j-init c = summing_start c.requires.4

pub overflow_add-s : goal.overflow_add-s
overflow_add-s c = let s = c in
    let h : c.loop-j.j < s.args.axes.rows.side = search rules in
    omega (arith, place_in s.requires.0.laid.rows s.requires.0.rows s.requires.2 h, s.requires.0.rows.long)

pub bounds-second-s : goal.bounds-second-s
bounds-second-s c = let s = c in
    let h : c.loop-j.j < s.args.axes.rows.side = search rules in
    place_in s.requires.0.laid.rows s.requires.0.rows s.requires.2 h

pub row_for-row-requires : goal.row_for-row-requires
row_for-row-requires c = let s = c in
    let h : c.loop-j.j < s.args.axes.rows.side = search rules in
    (table_held s.requires.0.laid.planes s.requires.0.planes s.requires.1 s.requires.3, table_held s.requires.0.laid.rows s.requires.0.rows s.requires.2 h, s.requires.0.laid.rows.short)

pub overflow_add-q : goal.overflow_add-q
overflow_add-q c = let s = c in
    let h : c.loop-j.j < s.args.axes.rows.side = search rules in
    omega (arith, kernel_in s.requires.0 s.requires.1 s.requires.2 s.requires.3 h, kernel_few s.requires.0.laid)

pub add_kernel_row-requires : goal.add_kernel_row-requires
add_kernel_row-requires c = let s = c in
    let h : c.loop-j.j < s.args.axes.rows.side = search rules in (
      s.requires.0.laid,
      reading (mapped_directed s.args.backward s.requires.0) s.requires.1 s.requires.2 s.requires.3 h c.row_for-row.ensures
          c.loop-j.invariant,
    )

pub loop-j-preserved : goal.loop-j-preserved
loop-j-preserved c = let s = c in
    let h : c.loop-j.j < s.args.axes.rows.side = search rules in
    let k = c.add_kernel_row in
    summing_more (mapped_directed s.args.backward s.requires.0) s.requires.1 s.requires.2 s.requires.3 h c.row_for-row.ensures
    c.loop-j.invariant k.auto.line k.ensures

pub shape_of-line : goal.shape_of-line
shape_of-line c = c.loop-j.invariant.line_long ∙ sym c.requires.4.line_long

pub shape_of-out : goal.shape_of-out
shape_of-out c = summing_length c.loop-j.invariant ∙ sym (summing_length c.requires.4)

pub returns : goal.returns
returns c = let a = c.args in
    summing_to c.loop-j.invariant ((a.i + 1) * a.axes.rows.side) (omega (arith, add-mul a.i 1 a.axes.rows.side))
