-- `first_place` meets its contract: each early return has a reason why the lane is not inside, and past all of them it is; no product wraps.
use mathlib.Core.Path.{sym, ◌∙◌}
use Prim.Native.Nat.{ℕ, ◌-◌, ◌*◌, ◌≤◌, ◌<◌, ◌^◌}
use native.Mathlib.Nat.{mul-le-mul, le_refl, le_trans, le_of_lt}
use native.Mathlib.Omega.{arith}
use Rattle.numbers.proofs.Tests.{cond_yes, cond_no}
use Rattle.lanes.proofs.Cells.{base_over, base_small, inside_yes, inside_no}
use borrow.Author.Rules.{rules}
use Rattle.lanes.proofs.first_place.Goals as goal

pub returns-then-count-gt-MOST_PADDED_CELLS : goal.returns-then-count-gt-MOST_PADDED_CELLS
returns-then-count-gt-MOST_PADDED_CELLS c = let a = c.args in sym (cond_no _ _ _ (inside_no a.n a.stride a.lane a.count (λ I. omega arith)))

pub returns-then-n-lt1 : goal.returns-then-n-lt1
returns-then-n-lt1 c = let a = c.args in sym (cond_no _ _ _ (inside_no a.n a.stride a.lane a.count (λ I. omega arith)))

pub returns-then-stride-lt1 : goal.returns-then-stride-lt1
returns-then-stride-lt1 c = let a = c.args in sym (cond_no _ _ _ (inside_no a.n a.stride a.lane a.count (λ I. omega arith)))

pub returns-then-count-stride : goal.returns-then-count-stride
returns-then-count-stride c = let a = c.args in sym (cond_no _ _ _ (inside_no a.n a.stride a.lane a.count (λ I. omega arith)))

pub returns-then-count-n : goal.returns-then-count-n
returns-then-count-n c = let a = c.args in sym (cond_no _ _ _
    (inside_no a.n a.stride a.lane a.count (λ I. omega (arith, mul-le-mul (le_refl (a.n - 1)) I.apart))))

pub returns-then-count-lane : goal.returns-then-count-lane
returns-then-count-lane c = let a = c.args in sym (cond_no _ _ _
    (inside_no a.n a.stride a.lane a.count (λ I. omega (arith, base_over a.n a.stride a.lane I.some))))

pub base_of-base-requires : goal.base_of-base-requires
base_of-base-requires c = (omega arith, omega arith, omega arith, omega arith)

-- the tests passed so far keep every product small
base-fits : (c : goal.After-base_of-base) → c.base_of-base.result < 2 ^ 46
base-fits c =
    let e = c.before in
    rw c.base_of-base.ensures (base_small e.if-count-n.false e.if-count-stride.false (le_of_lt e.if-count-lane.false) (search rules) (search rules))

run_fits : (m s c : ℕ) → m ≤ c → s ≤ c → c ≤ 32768 → m * s < 2 ^ 31
run_fits m s c h k l = omega (arith, mul-le-mul (le_trans h l) (le_trans k l))

pub overflow_mul-n : goal.overflow_mul-n
overflow_mul-n c = let a = c.args in omega (arith, run_fits (a.n - 1) a.stride a.count (omega arith) (omega arith) (omega arith))

pub overflow_add-base : goal.overflow_add-base
overflow_add-base c = let a = c.args in omega (arith, base-fits c, run_fits (a.n - 1) a.stride a.count (omega arith) (omega arith) (omega arith))

pub returns-then-count-base : goal.returns-then-count-base
returns-then-count-base c =
    let a = c.args in
    let e = c.base_of-base.ensures in
    sym (cond_no _ _ _ (inside_no a.n a.stride a.lane a.count (λ I. omega arith)))

pub returns : goal.returns
returns c =
    let a = c.args in
    let e = c.base_of-base.ensures in
    e ∙ sym (cond_yes _ _ _ (inside_yes (record { small = omega arith; some = omega arith; apart = omega arith; short = omega arith; last = omega arith })))
