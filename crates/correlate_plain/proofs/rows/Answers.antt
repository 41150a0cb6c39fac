-- `rows` meets its contract: every row holds by computing.
use mathlib.Core.Path.{refl}
use mathlib.Core.Bool.{true≢false}
use mathlib.Core.List.{[], ◌∷◌}
use native.Mathlib.Omega.{arith}
use Rattle.numbers.specs.Rows.{wholes}
use Rattle.correlate_spec.specs.Sizes.{LineSumNeeds}
use Rattle.correlate_spec.specs.Weighed.{summed}
use Rattle.correlate_plain.proofs.rows.Goals as goal

-- one cell under two weights
weighable : LineSumNeeds (wholes (2 ∷ 1 ∷ [])) (wholes (1 ∷ 2 ∷ [])) 1
weighable = record { some = omega arith; few = omega arith; long = omega arith; short = omega arith; weights = refl; cells = refl }

pub returns : goal.returns
unfolding summed
returns c = record {
  held = refl;
  three = refl;
  four = refl;
  added = refl;
  addable = record { line = weighable; small = refl };
  addable_large = λ a. true≢false a.small;
  passed = record { line = weighable; small = refl };
  passed_large = λ a. true≢false a.small;
}
