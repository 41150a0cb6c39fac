-- `next_start` meets its contract: inside a run and at its end by their laws; no product wraps.
use Prim.Native.Nat.{ℕ, ◌-◌, ◌*◌, ◌≤◌, ◌<◌, ◌^◌}
use native.Mathlib.Nat.{mul-le-mul}
use native.Mathlib.Omega.{arith}
use Rattle.lanes.proofs.Next.{starts_within, starts_past}
use Rattle.lanes.proofs.next_start.Goals as goal

run_fits : (n s : ℕ) → n ≤ 32768 → s ≤ 32768 → (n - 1) * s < 2 ^ 31
run_fits n s h k = omega (arith, mul-le-mul (less n h) k)
  where
    less : (m : ℕ) → m ≤ 32768 → m - 1 ≤ 32768
    less m b = omega arith

pub overflow_mul-result : goal.overflow_mul-result
overflow_mul-result c = let s = c.before.before in omega (arith, run_fits s.args.n s.args.stride s.requires.2 s.requires.4)

pub overflow_add-result : goal.overflow_add-result
overflow_add-result c = let s = c.before.before.before in omega (arith, run_fits s.args.n s.args.stride s.requires.2 s.requires.4, s.requires.5)

pub overflow_add-result-then-offset-stride : goal.overflow_add-result-then-offset-stride
overflow_add-result-then-offset-stride c = let s = c.before.before.before in omega (arith, run_fits s.args.n s.args.stride s.requires.2 s.requires.4, s.requires.5)

pub returns-then-offset-stride : goal.returns-then-offset-stride
returns-then-offset-stride c =
    let s = c.before.before.before in
    starts_past s.args.n s.args.stride s.args.lane s.requires.3 s.requires.1 s.requires.0 c.if-offset-stride.true

pub returns : goal.returns
returns c =
    let s = c.before.before.before in
    starts_within s.args.n s.args.stride s.args.lane s.requires.3 s.requires.0 c.if-offset-stride.false
