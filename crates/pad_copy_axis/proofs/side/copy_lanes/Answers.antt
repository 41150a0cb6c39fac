-- `copy_lanes` meets its contract: each turn fills the rim of the next lane.
use mathlib.Core.Path.{refl}
use Prim.Native.Nat.{◌+◌, ◌-◌, ◌*◌, ◌≤◌, ◌<◌}
use native.Mathlib.Omega.{arith}
use borrow.Author.Rules.{rules}
use Rattle.pad_copy_axis.proofs.LaneByLane.{LanesStored, lanes_none, lanes_all, lanes_more, lane_in, lane_stepped}
use Rattle.pad_copy_axis.proofs.Steps.{first_in_lem, side-below}
use Rattle.pad_copy_axis.proofs.side.copy_lanes.Goals as goal
use Rattle.pad_copy_axis.proofs.side.copy_lanes.Goals.{In-loop-lane}

-- the lane of a turn is in the grid, and so is the first cell that it reads, and the first that it fills
inside : (c : In-loop-lane) → let a = c.args in
    (c.loop-lane.lane * a.p + a.p ≤ 32768) × (a.from < a.p) × (a.a < a.p)
inside c =
    let s = c in
    let b = lane_in s.args.count s.args.out.now s.requires.0 s.requires.1 s.requires.3 c.loop-lane-test.true in
    (omega (arith, b, s.requires.0.small), first_in_lem s.requires.3 s.requires.0 s.requires.1 s.requires.2, omega (arith, side-below s.requires.3 s.requires.0 s.requires.1 0 s.requires.2))

pub loop-lane-init : goal.loop-lane-init
loop-lane-init c = (λ m R rims W. lanes_none _ _ _ _ _ _ _, refl)

pub overflow_mul-first : goal.overflow_mul-first
overflow_mul-first c = omega (arith, (inside c).0)

pub overflow_add-first : goal.overflow_add-first
overflow_add-first c = omega (arith, (inside c).0, (inside c).1)

pub overflow_add-first-in-loop-lane : goal.overflow_add-first-in-loop-lane
overflow_add-first-in-loop-lane c = omega (arith, (inside c).0, (inside c).2)

pub copy_steps-requires : goal.copy_steps-requires
copy_steps-requires c =
    let s = c in
    lane_stepped s.args.count s.args.out.now s.requires.0 s.requires.1 s.requires.3 c.loop-lane-test.true ((let so_far : let a = c.args in let l = c.loop-lane in LanesStored a.mode a.p a.left a.n a.a a.count a.out.now l.out l.lane = let s = c in c.loop-lane.invariant.0 s.args.mode s.requires.0 s.requires.1 s.requires.3 in so_far))

pub loop-lane-preserved : goal.loop-lane-preserved
loop-lane-preserved c =
    let i = c in
    let s = i in
    (λ m R rims W. lanes_more s.args.count s.args.out.now R rims W i.loop-lane-test.true (i.loop-lane.invariant.0 m R rims W) c.copy_steps.ensures, search rules)

pub returns : goal.returns
returns c =
    let s = c in
    lanes_all s.args.count s.args.out.now s.requires.0 s.requires.1 c.loop-lane-test.false (c.loop-lane.invariant.0 s.args.mode s.requires.0 s.requires.1 s.requires.3)
