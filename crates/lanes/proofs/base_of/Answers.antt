-- `base_of` meets its contract: neighbouring cells and the first run of lanes by their laws, all others by the definition; no product wraps.
use mathlib.Core.Path.{refl, sym, ap, ◌∙◌}
use Prim.Native.Nat.{ℕ, ◌^◌, ◌<◌}
use native.Mathlib.Nat.{mul-le-mul, le_refl}
use native.Mathlib.Omega.{arith}
use Rattle.lanes.specs.Lanes.{lane_base}
use Rattle.lanes.proofs.Cells.{base_small, base_neighbours, base_first}
use Rattle.lanes.proofs.base_of.Goals as goal

pub overflow_mul-result : goal.overflow_mul-result
overflow_mul-result c = let p = c.requires in omega (arith, mul-le-mul p.3 p.1)

pub returns-then-stride-eq1 : goal.returns-then-stride-eq1
returns-then-stride-eq1 c =
    let a = c.args in
    sym (base_neighbours a.n a.lane) ∙ ap (λ (s : ℕ). lane_base a.n s a.lane) (sym c.if-stride-eq1.true)

pub returns-then-lane-stride : goal.returns-then-lane-stride
returns-then-lane-stride c = sym (base_first c.args.n c.if-lane-stride.true)

-- every product is small
base-fits : (c : goal.Else-lane-stride) → let a = c.args in lane_base a.n a.stride a.lane < 2 ^ 46
base-fits c = let p = c.requires in base_small p.1 p.2 p.3 p.0 (le_refl 32768)

pub overflow_mul-result-2 : goal.overflow_mul-result-2
overflow_mul-result-2 c = let p = c.requires in omega (arith, mul-le-mul p.1 p.2)

pub overflow_mul-result-3 : goal.overflow_mul-result-3
overflow_mul-result-3 c = omega (arith, base-fits c)

pub overflow_add-result : goal.overflow_add-result
overflow_add-result c = omega (arith, base-fits c)

pub returns : goal.returns
returns c = refl
