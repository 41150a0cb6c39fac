-- `add_kernel_row` meets its contract: the row is loaded, and the sums of the kernel row's weights are added.
use native.Mathlib.Omega.{arith}
use Rattle.correlate_grid_row.proofs.KernelRow.{rows_few, weights_few, row_in, weights_in_lem, part_in_lem, row_addable, row_added}
use Rattle.correlate_grid_row.proofs.row.add_kernel_row.Goals as goal

pub overflow_mul-axes : goal.overflow_mul-axes
overflow_mul-axes c = omega (arith, rows_few c.requires.0)

pub load_row-requires : goal.load_row-requires
load_row-requires c = let s = c in (s.requires.0.row, s.requires.0.small, row_in s.requires.0 s.requires.1, s.requires.1.line_long)

pub overflow_mul-q : goal.overflow_mul-q
overflow_mul-q c = let s = c in omega (arith, weights_in_lem s.requires.0 s.requires.1, weights_few s.requires.0)

pub row_start-a-requires : goal.row_start-a-requires
row_start-a-requires c = let s = c in weights_in_lem s.requires.0 s.requires.1

pub overflow_add-e : goal.overflow_add-e
overflow_add-e c =
    let s = c in omega (arith, part_in_lem s.requires.0 s.requires.1 s.args.backward c.row_start-a.ensures, weights_few s.requires.0)

pub offset_bounds-weights-a : goal.offset_bounds-weights-a
offset_bounds-weights-a c =
    let s = c in omega (arith, part_in_lem s.requires.0 s.requires.1 s.args.backward c.row_start-a.ensures, weights_few s.requires.0)

pub slice_bounds-add_line-end : goal.slice_bounds-add_line-end
slice_bounds-add_line-end c = let s = c in part_in_lem s.requires.0 s.requires.1 s.args.backward c.row_start-a.ensures

pub add_line-requires : goal.add_line-requires
add_line-requires c =
    let k = c in
    let s = k in
    row_addable s.requires.0 s.requires.1 s.args.backward k.row_start-a.ensures k.load_row.ensures

pub returns : goal.returns
returns c =
    let k = c in
    let s = k in
    row_added s.requires.0 s.requires.1 s.args.backward k.row_start-a.ensures k.load_row.ensures c.add_line.ensures
