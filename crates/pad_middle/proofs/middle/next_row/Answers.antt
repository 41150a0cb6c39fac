-- `next_row` meets its contract: the rows of up to two axes stand in one run; on three, inside a plane and at its end by their laws. No product wraps.
use mathlib.Core.Path.{◌≡◌}
use Prim.Native.Nat.{◌-◌}
use native.Mathlib.Omega.{arith}
use lib.ListN.{length}
use Rattle.pad_spec.proofs.Room.{grid_accepted}
use Rattle.pad_middle.proofs.RowPlace.{padded_small, axis_room, step_small}
use Rattle.pad_middle.proofs.RowSteps.{place_small, offset_small, next_few, next_within, next_past}
use Rattle.pad_middle.proofs.middle.next_row.Goals as goal

pub overflow_sub-last : goal.overflow_sub-last
overflow_sub-last c = (grid_accepted c.requires.0).some

pub bounds-padded-last : goal.bounds-padded-last
bounds-padded-last c = let F = c.requires.0 in omega (arith, F.axes, (grid_accepted F).some)

pub overflow_add-result : goal.overflow_add-result
overflow_add-result c =
    let s = c in
    let F = s.requires.0 in
    omega (arith, place_small _ _ _ F s.args.row s.requires.1 s.requires.2, padded_small _ _ _ F (length s.args.shape.now - 1) (omega (arith, (grid_accepted F).some)))

pub returns-then-shape-lt3 : goal.returns-then-shape-lt3
returns-then-shape-lt3 c = let s = c in next_few _ _ _ s.requires.0 s.args.row s.requires.1 s.requires.2 c.if-shape-lt3.true

pub overflow_add-offset : goal.overflow_add-offset
overflow_add-offset c = let s = c in omega (arith, offset_small _ _ _ s.requires.0 s.args.row s.requires.1 s.requires.2 ((let three : length c.args.shape.now ≡ 3 = omega (arith, (grid_accepted c.requires.0).few, c.if-shape-lt3.false) in three)))

pub overflow_sub-result : goal.overflow_sub-result
overflow_sub-result c = let e = c in axis_room _ _ _ e.requires.0 1 (omega (arith, (let three : length e.args.shape.now ≡ 3 = omega (arith, (grid_accepted e.requires.0).few, e.if-shape-lt3.false) in three)))

pub overflow_add-result-then-offset-shape : goal.overflow_add-result-then-offset-shape
overflow_add-result-then-offset-shape c = let e = c in omega (arith, padded_small _ _ _ e.requires.0 1 (omega (arith, (let three : length e.args.shape.now ≡ 3 = omega (arith, (grid_accepted e.requires.0).few, e.if-shape-lt3.false) in three))))

pub overflow_mul-result : goal.overflow_mul-result
overflow_mul-result c = let e = c in omega (arith, step_small _ _ _ e.requires.0 (omega (arith, (let three : length e.args.shape.now ≡ 3 = omega (arith, (grid_accepted e.requires.0).few, e.if-shape-lt3.false) in three))))

pub overflow_add-result-then-offset-shape-2 : goal.overflow_add-result-then-offset-shape-2
overflow_add-result-then-offset-shape-2 c =
    let e = c in
    let s = e in
    omega (arith, step_small _ _ _ s.requires.0 (omega (arith, (let three : length e.args.shape.now ≡ 3 = omega (arith, (grid_accepted e.requires.0).few, e.if-shape-lt3.false) in three))), place_small _ _ _ s.requires.0 s.args.row s.requires.1 s.requires.2)

pub returns-then-offset-shape : goal.returns-then-offset-shape
returns-then-offset-shape c =
    let e = c in
    let s = e in
    next_past _ _ _ s.requires.0 s.args.row s.requires.1 s.requires.2 ((let three : length e.args.shape.now ≡ 3 = omega (arith, (grid_accepted e.requires.0).few, e.if-shape-lt3.false) in three)) c.if-offset-shape.true

pub overflow_add-result-2 : goal.overflow_add-result-2
overflow_add-result-2 c =
    let e = c in
    let s = e in
    omega (arith, place_small _ _ _ s.requires.0 s.args.row s.requires.1 s.requires.2, padded_small _ _ _ s.requires.0 2 (omega (arith, (let three : length e.args.shape.now ≡ 3 = omega (arith, (grid_accepted e.requires.0).few, e.if-shape-lt3.false) in three))))

pub returns : goal.returns
returns c =
    let e = c in
    let s = e in
    next_within _ _ _ s.requires.0 s.args.row s.requires.1 s.requires.2 ((let three : length e.args.shape.now ≡ 3 = omega (arith, (grid_accepted e.requires.0).few, e.if-shape-lt3.false) in three)) c.if-offset-shape.false
