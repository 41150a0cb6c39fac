-- `calls_are_steps` meets its contract: the number is the judge's, and what is left in the output goes on where it is 0.
use mathlib.Core.Path.{◌≡◌, refl, ap, ◌∙◌}
use mathlib.Core.Bool.{Bool, true, false, cond}
use mathlib.Core.List.{List}
use Prim.Native.Nat.{ℕ}
use lib.Dec.{eqb}
use lib.IntN.{ℤ}
use lib.Signed.{le_z}
use Rattle.numbers.specs.Order.{at_least}
use Rattle.numbers.specs.Refusal.{Answers}
use Rattle.min_max_spec.specs.Call.{Call, call_judged, number_of}
use Rattle.min_max_spec.specs.Run.{answer_of, after}
use Rattle.min_max_spec.specs.Steps.{CallStep}
use Rattle.min_max_spec.proofs.calls_are_steps.Goals as goal

module _ (le : ℤ → ℤ → Bool) (cells : List ℤ) (c : Call) (r : ℕ) (left : List ℤ) (A : Answers (call_judged cells c) (answer_of le cells c) c.out r left) where
  same_number : r ≡ number_of cells c
  unfolding number_of
  same_number = A.number

  goes_on : (t : Bool) → eqb r 0 ≡ t → cond t left cells ≡ cond t (answer_of le cells c) cells
  goes_on true e = A.cells ∙ ap (λ u. cond u (answer_of le cells c) c.out) e
  goes_on false e = refl

  same_levels : cond (eqb r 0) left cells ≡ after le cells c
  unfolding after
  same_levels = goes_on (eqb r 0) refl ∙ ap (λ n. cond (eqb n 0) (answer_of le cells c) cells) same_number

step_of : (le : ℤ → ℤ → Bool) → CallStep le
step_of le = record { number = same_number le; levels = same_levels le }

pub returns : goal.returns
returns c = record { minimum = step_of le_z; maximum = step_of at_least }
