-- What the workers of a line suppose of its weights holds of them in either direction.
-- Assumes nothing.
use Prim.Native.Nat.{ℕ}
use mathlib.Core.Path.{◌∙◌}
use mathlib.Core.Bool.{Bool}
use mathlib.Core.List.{List}
use native.Mathlib.Omega.{arith}
use lib.IntN.{ℤ}
use Rattle.numbers.specs.Limits.{largest_weight}
use Rattle.numbers.specs.Ranges.{over}
use Rattle.correlate_spec.specs.Sizes.{LineSumNeeds}
use Rattle.direction.specs.Direction.{directed}
use Rattle.direction.proofs.Directed.{directed-length, directed_any}
use Rattle.correlate_plain.specs.Added.{Passed}

module _ (backward : Bool) {w s : List ℤ} where
  pub line-directed : {n : ℕ} → LineSumNeeds w s n → LineSumNeeds (directed backward w) s n
  line-directed W = let e = directed-length backward w in record {
    some = omega (arith, e, W.some);
    few = omega (arith, e, W.few);
    long = omega (arith, e, W.long);
    short = W.short;
    weights = directed_any (over largest_weight) backward w ∙ W.weights;
    cells = W.cells;
  }

  pub passed_directed : {out : List ℤ} → Passed w s out → Passed (directed backward w) s out
  passed_directed A = record { line = line-directed A.line; small = A.small }
