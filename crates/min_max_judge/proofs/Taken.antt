-- A window that conditions 5 and 7 accept, and the refusal chain that begins with them.
-- Assumes nothing.
use mathlib.Core.Path.{◌≡◌, sym, ap, ◌∙◌}
use mathlib.Core.Bool.{Bool, true, false, not, ◌&&◌, ◌||◌}
use mathlib.Core.List.{◌++◌}
use Prim.Native.Nat.{ℕ, ◌+◌, ◌-◌, ◌/◌}
use native.Mathlib.Omega.{arith}
use borrow.Author.Tests.{eq-eqb, ne_eqb}
use lib.Dec.{eqb}
use lib.IntN.{ℤ, pos, nat_abs, ◌+ℤ◌, ◌-ℤ◌}
use lib.ListN.{drop}
use Rattle.numbers.specs.Ranges.{outside}
use Rattle.numbers.specs.Refusal.{Judged, refusal_of}
use Rattle.numbers.proofs.Chain.{judged-all, chain_stops}
use Rattle.numbers.proofs.Tests.{condition_is}
use Rattle.border.specs.Border.{Border}
use Rattle.window_spec.specs.Origin.{bad_origin, origin_pads}
use Rattle.window_spec.proofs.Answered.{not_refused, left_is, right_is}
use Rattle.window_spec.proofs.Origins.{pads_sum, axis-accepted, accepted_some}
use Rattle.window_spec.specs.declared.Origin.{Origin}
use Rattle.window_spec.specs.declared.Origin.TheVariants.{Pads, Refused}
use Rattle.border.specs.Reach.{bad_pad}
use Rattle.min_max_judge.specs.Judge.{size_judged}
use Rattle.window_spec.specs.Window.{bad_window_origin, bad_reach}

-- ---- conditions 5 and 7, the origin as their judge was handed it and as the call has it
-- a window that has passed them
pub record Taken (size : ℕ) (o : ℤ) : Type 0 where
  pub size_in : outside 1 65 size ≡ false
  pub origin_in : bad_window_origin size o ≡ false

module _ (size : ℕ) {handed o : ℤ} (e : handed ≡ o) {r : ℕ} (j : r ≡ refusal_of (size_judged size handed)) where
  number : r ≡ refusal_of (size_judged size o)
  number = j ∙ ap (λ (x : ℤ). refusal_of (size_judged size x)) e

  pub window_taken : r ≡ 0 → Taken size o
  window_taken z = let p = judged-all (size_judged size o) (tt, (tt, tt)) (sym number ∙ z) in record { size_in = p.0; origin_in = p.1.0 }

  -- a list of conditions that begins with these two
  pub window_stops : (js : Judged) → (r ≡ 0 → ⊥) → r ≡ refusal_of (size_judged size o ++ drop 2 js)
  window_stops js = chain_stops (size_judged size o) (drop 2 js) (tt, (tt, tt)) number
