-- `first_row` meets its contract on one, two and three axes; no product wraps.
use mathlib.Core.Path.{◌≡◌}
use native.Mathlib.Omega.{arith}
use lib.ListN.{length}
use Rattle.pad_spec.proofs.Room.{grid_accepted}
use Rattle.pad_middle.proofs.RowPlace.{left_small, first-second, first_third}
use Rattle.pad_middle.proofs.RowSteps.{first_one, first_two, first_three}
use Rattle.pad_middle.proofs.middle.first_row.Goals as goal

pub returns-then-shape-eq1 : goal.returns-then-shape-eq1
returns-then-shape-eq1 c = first_one _ _ _ c.requires c.if-shape-eq1.true

pub overflow_mul-result : goal.overflow_mul-result
overflow_mul-result c = let t = c in omega (arith, first-second _ _ _ t.requires (omega (arith, t.if-shape-eq2.true)))

pub overflow_add-result : goal.overflow_add-result
overflow_add-result c =
    let t = c in
    let F = t.requires in
    omega (arith, first-second _ _ _ F (omega (arith, t.if-shape-eq2.true)), left_small _ _ _ F 1 (omega (arith, t.if-shape-eq2.true)))

pub returns-then-shape-eq2 : goal.returns-then-shape-eq2
returns-then-shape-eq2 c = let t = c in first_two _ _ _ t.requires t.if-shape-eq2.true

pub bounds-lefts-0-2 : goal.bounds-lefts-0-2
bounds-lefts-0-2 c = omega (arith, (let three : length c.args.shape.now ≡ 3 = let A = grid_accepted c.requires in omega (arith, A.some, A.few, c.if-shape-eq1.false, c.if-shape-eq2.false) in three), c.requires.starts)

pub bounds-padded-1-2 : goal.bounds-padded-1-2
bounds-padded-1-2 c = omega (arith, (let three : length c.args.shape.now ≡ 3 = let A = grid_accepted c.requires in omega (arith, A.some, A.few, c.if-shape-eq1.false, c.if-shape-eq2.false) in three), c.requires.axes)

pub overflow_mul-result-2 : goal.overflow_mul-result-2
overflow_mul-result-2 c = let t = c in omega (arith, first-second _ _ _ t.requires (omega (arith, (let three : length t.args.shape.now ≡ 3 = let A = grid_accepted t.requires in omega (arith, A.some, A.few, t.if-shape-eq1.false, t.if-shape-eq2.false) in three))))

pub bounds-lefts-1-2 : goal.bounds-lefts-1-2
bounds-lefts-1-2 c = let t = c in omega (arith, (let three : length t.args.shape.now ≡ 3 = let A = grid_accepted t.requires in omega (arith, A.some, A.few, t.if-shape-eq1.false, t.if-shape-eq2.false) in three), t.requires.starts)

pub overflow_add-result-2 : goal.overflow_add-result-2
overflow_add-result-2 c =
    let t = c in
    let F = t.requires in
    omega (arith, first-second _ _ _ F (omega (arith, (let three : length t.args.shape.now ≡ 3 = let A = grid_accepted t.requires in omega (arith, A.some, A.few, t.if-shape-eq1.false, t.if-shape-eq2.false) in three))), left_small _ _ _ F 1 (omega (arith, (let three : length t.args.shape.now ≡ 3 = let A = grid_accepted t.requires in omega (arith, A.some, A.few, t.if-shape-eq1.false, t.if-shape-eq2.false) in three))))

pub bounds-padded-2 : goal.bounds-padded-2
bounds-padded-2 c = let t = c in omega (arith, (let three : length t.args.shape.now ≡ 3 = let A = grid_accepted t.requires in omega (arith, A.some, A.few, t.if-shape-eq1.false, t.if-shape-eq2.false) in three), t.requires.axes)

pub overflow_mul-result-3 : goal.overflow_mul-result-3
overflow_mul-result-3 c = let t = c in omega (arith, first_third _ _ _ t.requires (omega (arith, (let three : length t.args.shape.now ≡ 3 = let A = grid_accepted t.requires in omega (arith, A.some, A.few, t.if-shape-eq1.false, t.if-shape-eq2.false) in three))))

pub bounds-lefts-2 : goal.bounds-lefts-2
bounds-lefts-2 c = let t = c in omega (arith, (let three : length t.args.shape.now ≡ 3 = let A = grid_accepted t.requires in omega (arith, A.some, A.few, t.if-shape-eq1.false, t.if-shape-eq2.false) in three), t.requires.starts)

pub overflow_add-result-3 : goal.overflow_add-result-3
overflow_add-result-3 c =
    let t = c in
    let F = t.requires in
    omega (arith, first_third _ _ _ F (omega (arith, (let three : length t.args.shape.now ≡ 3 = let A = grid_accepted t.requires in omega (arith, A.some, A.few, t.if-shape-eq1.false, t.if-shape-eq2.false) in three))), left_small _ _ _ F 2 (omega (arith, (let three : length t.args.shape.now ≡ 3 = let A = grid_accepted t.requires in omega (arith, A.some, A.few, t.if-shape-eq1.false, t.if-shape-eq2.false) in three))))

pub returns : goal.returns
returns c = let t = c in first_three _ _ _ t.requires ((let three : length t.args.shape.now ≡ 3 = let A = grid_accepted t.requires in omega (arith, A.some, A.few, t.if-shape-eq1.false, t.if-shape-eq2.false) in three))
