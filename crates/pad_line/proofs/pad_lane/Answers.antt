-- `pad_lane` meets its contract: every test that fails leaves the line; where all pass, the lane is padded from its first place on.
use lib.IntN.{pos}
use Rattle.numbers.proofs.Tests.{condition_is}
use Rattle.border.specs.Modes.{border_of}
use Rattle.pad_line.proofs.Serves.{bad-left_stays, bad-right_stays, lane_stays, Serves, served_from, lane-padded}
use Rattle.pad_line.proofs.pad_lane.Goals as goal

pub returns-then-bad_pad : goal.returns-then-bad_pad
returns-then-bad_pad c = let a = c.args in bad-left_stays (pos 0) (border_of a.mode) a.n a.stride a.lane a.left a.right a.grid.now a.line.now
    c.bad_pad.ensures c.if-bad_pad.true

pub returns-then-bad_pad-2 : goal.returns-then-bad_pad-2
returns-then-bad_pad-2 c = let a = c.args in bad-right_stays (pos 0) (border_of a.mode) a.n a.stride a.lane a.left a.right a.grid.now a.line.now
    c.bad_pad-2.ensures c.if-bad_pad-2.true

pub returns-then-not-lane_fits : goal.returns-then-not-lane_fits
returns-then-not-lane_fits c = let a = c.args in lane_stays (pos 0) (border_of a.mode) a.n a.stride a.lane a.left a.right a.grid.now
    a.line.now c.lane_fits.ensures (c.if-not-lane_fits.true)

pub pad_from-requires : goal.pad_from-requires
pad_from-requires c = served_from (pos 0) ((let served : let a = c.args in Serves (border_of a.mode) a.n a.stride a.lane a.left a.right a.grid.now a.line.now = record { fits = condition_is c.lane_fits.ensures (c.if-not-lane_fits.false); fills_left = condition_is c.bad_pad.ensures c.if-bad_pad.false; fills_right = condition_is c.bad_pad-2.ensures c.if-bad_pad-2.false } in served)) c.first_place-base.ensures

pub returns : goal.returns
returns c = lane-padded (pos 0) ((let served : let a = c.args in Serves (border_of a.mode) a.n a.stride a.lane a.left a.right a.grid.now a.line.now = record { fits = condition_is c.lane_fits.ensures (c.if-not-lane_fits.false); fills_left = condition_is c.bad_pad.ensures c.if-bad_pad.false; fills_right = condition_is c.bad_pad-2.ensures c.if-bad_pad-2.false } in served)) c.first_place-base.ensures c.pad_from.ensures
