-- `min_max_axis::each_lane::filter_rows` meets its contract: the lanes below the one that the loop has reached are written, each as a part of out.
use mathlib.Core.Path.{refl}
use native.Mathlib.Omega.{arith}
use Rattle.pad_line.proofs.RowLoop.{row_none, row_small, row_needs, row_more, row_all}
use borrow.Author.Rules.{rules}
use Rattle.min_max_axis.proofs.each_lane.filter_rows.Goals as goal

pub loop-lane-init : goal.loop-lane-init
loop-lane-init c = let P = c.requires in row_none P.0 P.2 P.3 c.lanes_of-along.ensures

pub overflow_add-e : goal.overflow_add-e
overflow_add-e c = omega (arith, row_small c.loop-lane.invariant c.loop-lane-test.true)

pub offset_bounds-out-base : goal.offset_bounds-out-base
offset_bounds-out-base c = omega (arith, row_small c.loop-lane.invariant c.loop-lane-test.true)

pub filter_lane-requires : goal.filter_lane-requires
filter_lane-requires c = (row_needs c.loop-lane.invariant c.loop-lane-test.true (search rules), c.requires.1)

pub loop-lane-preserved : goal.loop-lane-preserved
loop-lane-preserved c =
    let k = c.filter_lane in
    row_more c.loop-lane.invariant c.loop-lane-test.true refl
    k.auto.line k.auto.row k.ensures refl

pub returns : goal.returns
returns c = row_all c.loop-lane.invariant (search rules)
