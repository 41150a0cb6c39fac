-- `median_row` meets its contract: the counts of the rows around it, and their votes.
use Prim.Native.Nat.{◌-◌}
use native.Mathlib.Omega.{arith}
use Rattle.median_spec.proofs.Spans.{planes_small, rows_small, plane-below, row_below}
use Rattle.median_spec.proofs.Row.{row_adds, planes_ordered, rows_ordered, rows_nine, voted_room, row_counted, row_voted}
use Rattle.median_row.proofs.row.median_row.Goals as goal

pub around-xs-requires : goal.around-xs-requires
around-xs-requires c = let s = c in (plane-below s.requires.0 _ s.requires.1, planes_small s.requires.0)

pub around-ys-requires : goal.around-ys-requires
around-ys-requires c = let s = c in (row_below s.requires.0 _ s.requires.1, rows_small s.requires.0)

pub add_planes-requires : goal.add_planes-requires
add_planes-requires c = let s = c in row_adds s.requires.3 s.requires.0 _ s.requires.1 c.around-xs.ensures
    c.around-ys.ensures

pub overflow_sub-m : goal.overflow_sub-m
overflow_sub-m c = let s = c in planes_ordered s.requires.3 s.requires.0 _ s.requires.1
    c.around-xs.ensures c.around-ys.ensures

pub overflow_sub-m-2 : goal.overflow_sub-m-2
overflow_sub-m-2 c = let s = c in rows_ordered s.requires.3 s.requires.0 _ s.requires.1
    c.around-xs.ensures c.around-ys.ensures

pub overflow_mul-m : goal.overflow_mul-m
overflow_mul-m c = let s = c in omega (
  arith,
  rows_nine s.requires.3 s.requires.0 _ s.requires.1 c.around-xs.ensures
      c.around-ys.ensures,
)

pub overflow_mul-a : goal.overflow_mul-a
overflow_mul-a c = let s = c in omega (
  arith,
  voted_room s.requires.3 s.requires.0 _ s.requires.1 c.around-xs.ensures
      c.around-ys.ensures c.add_planes.ensures,
  s.requires.0.small,
)

pub overflow_cast-m : goal.overflow_cast-m
overflow_cast-m c = let s = c in omega (
  arith,
  rows_nine s.requires.3 s.requires.0 _ s.requires.1 c.around-xs.ensures
      c.around-ys.ensures,
)

pub vote_row-requires : goal.vote_row-requires
vote_row-requires c =
    let s = c in
    let room = voted_room s.requires.3 s.requires.0 _ s.requires.1 c.around-xs.ensures
    c.around-ys.ensures c.add_planes.ensures in (
      row_counted s.requires.3 s.requires.0 _ s.requires.1 c.around-xs.ensures
          c.around-ys.ensures c.add_planes.ensures,
      omega (arith, room, s.requires.2),
      omega (arith, s.requires.0.small, s.requires.2),
    )

pub returns : goal.returns
returns c = let s = c in row_voted s.requires.3 s.requires.0 _ s.requires.1
    c.around-xs.ensures
    c.around-ys.ensures
    c.add_planes.ensures s.args.out.now c.vote_row.ensures
