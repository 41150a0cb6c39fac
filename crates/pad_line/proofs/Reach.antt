-- A pad that condition 11 lets in reads cells of the lane only.
-- Assumes nothing.
use mathlib.Core.Path.{◌≡◌}
use mathlib.Core.Bool.{false}
use Prim.Native.Nat.{ℕ, ◌-◌, ◌≤◌, ◌<◌}
use native.Mathlib.Omega.{arith}
use borrow.Author.Tests.{ltb-false}
use Rattle.border.specs.Border.{cell_before, cell_after}
use Rattle.border.specs.declared.CellBorder.{CellBorder}
use Rattle.border.specs.declared.CellBorder.TheVariants.{Nearest, Mirror, Reflect, Wrap}
use Rattle.border.specs.Reach.{bad_along}

before_in : (m : CellBorder) (n pad k : ℕ) → 0 < n → 0 < k → k ≤ pad → bad_along m n pad ≡ false → cell_before m n k < n
before_in Nearest n pad k some out short e = some
before_in Mirror n pad k some out short e = omega (arith, ltb-false (n - 1) pad e)
before_in Reflect n pad k some out short e = omega (arith, ltb-false n pad e)
before_in Wrap n pad k some out short e = omega arith

after_in : (m : CellBorder) (n pad k : ℕ) → 0 < n → 0 < k → k ≤ pad → bad_along m n pad ≡ false → cell_after m n k < n
after_in Nearest n pad k some out short e = omega arith
after_in Mirror n pad k some out short e = omega arith
after_in Reflect n pad k some out short e = omega arith
after_in Wrap n pad k some out short e = omega (arith, ltb-false n pad e)

-- the same of what the index functions answer
module _ (m : CellBorder) (n pad k : ℕ) (some : 0 < n) (out : 0 < k) (short : k ≤ pad) (h : bad_along m n pad ≡ false) where
  pub cell-before_in : {r : ℕ} → r ≡ cell_before m n k → r < n
  cell-before_in e = rw e (before_in m n pad k some out short h)

  pub cell-after_in : {r : ℕ} → r ≡ cell_after m n k → r < n
  cell-after_in e = rw e (after_in m n pad k some out short h)
