-- `lane_fits` meets its contract: the line is measured part by part, so that no sum wraps, and the first place tells whether the lane is inside.
use Prim.Native.Nat.{◌+◌}
use native.Mathlib.Omega.{arith}
use Rattle.pad_line.proofs.Serves.{lane_test}
use Rattle.pad_line.proofs.lane_fits.Goals as goal

pub returns-then-right-room : goal.returns-then-right-room
returns-then-right-room c =
    let a = c.args in
    lane_test a.n a.stride a.lane a.count c.first_place.ensures (a.left + a.n + a.right) a.room (grind arith)
