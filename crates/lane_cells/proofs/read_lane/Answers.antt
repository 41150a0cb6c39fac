-- `read_lane` meets its contract: the first place tells whether the lane is inside.
use lib.IntN.{pos}
use Rattle.lanes.proofs.FirstPlace.{read_none, read_room}
use Rattle.lane_cells.proofs.read_lane.Goals as goal

pub read_from-requires : goal.read_from-requires
read_from-requires c =
    let a = c.args in
    read_room (pos 0) a.stride a.lane a.line.now a.grid.now _ c.first_place-base.ensures c.if-base-count.true

pub returns-else-base-count : goal.returns-else-base-count
returns-else-base-count c =
    let a = c.args in
    read_none (pos 0) a.stride a.lane a.line.now a.grid.now _ c.first_place-base.ensures c.if-base-count.false
