-- `average_lanes` meets its contract: the lanes below the one that the loop has reached are written.
use mathlib.Core.Path.{refl}
use native.Mathlib.Omega.{arith}
use Rattle.pad_line.proofs.EveryLane.{axis_lanes, axis_starts, sweeping_none, lane_needs, write_needs, start_needs, sweeping_more, sweeping_all}
use borrow.Author.Rules.{rules}
use Rattle.uniform_axis.proofs.lane_loop.average_lanes.Goals as goal

pub loop-lane-init : goal.loop-lane-init
loop-lane-init c =
    let P = c.requires in
    let o = axis_lanes P.0 c.lanes_of-along.ensures in
    (sweeping_none P.0 o P.2, axis_starts P.0 o)

pub average_lane-requires : goal.average_lane-requires
average_lane-requires c =
    let l = c.loop-lane in
    let h = c.loop-lane-test.true in
    let w = write_needs l.invariant.0 h l.invariant.1.place refl in
    (lane_needs l.invariant.0 h (omega (arith, l.invariant.1.place)) refl, c.requires.1, w.1, w.2, w.3)

pub next_start-start-requires : goal.next_start-start-requires
next_start-start-requires c = let l = c.loop-lane in start_needs l.invariant.0 (search rules) l.invariant.1

pub loop-lane-preserved : goal.loop-lane-preserved
loop-lane-preserved c =
    let l = c.loop-lane in
    let k = c.average_lane in (
      sweeping_more l.invariant.0 c.loop-lane-test.true l.invariant.1.place refl
          k.auto.line refl k.ensures,
      c.next_start-start.ensures,
    )

pub returns : goal.returns
returns c = sweeping_all c.loop-lane.invariant.0 (search rules)
