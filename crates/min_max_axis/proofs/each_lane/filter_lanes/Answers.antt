-- `min_max_axis::each_lane::filter_lanes` meets its contract: the lanes below the one that the loop has reached are written.
use mathlib.Core.Path.{refl}
use Rattle.pad_line.proofs.ColumnLoop.{column_none, column_needs, column_write, column_step, column_more, column_all}
use borrow.Author.Rules.{rules}
use Rattle.min_max_axis.proofs.each_lane.filter_lanes.Goals as goal

pub loop-lane-init : goal.loop-lane-init
loop-lane-init c = let P = c.requires in column_none P.0 P.2 P.3 c.lanes_of-along.ensures

pub filter_lane-requires : goal.filter_lane-requires
filter_lane-requires c = (column_needs c.loop-lane.invariant c.loop-lane-test.true (search rules), c.requires.1)

pub write_from-requires : goal.write_from-requires
write_from-requires c = let k = c in
    column_write k.loop-lane.invariant k.loop-lane-test.true c.filter_lane.auto.row

pub next_start-start-requires : goal.next_start-start-requires
next_start-start-requires c = let k = c in column_step k.loop-lane.invariant k.loop-lane-test.true

pub loop-lane-preserved : goal.loop-lane-preserved
loop-lane-preserved c = let k = c in let f = c.filter_lane in
    column_more k.loop-lane.invariant k.loop-lane-test.true refl f.auto.line f.auto.row
    f.ensures c.write_from.ensures c.next_start-start.ensures

pub returns : goal.returns
returns c = column_all c.loop-lane.invariant (search rules)
