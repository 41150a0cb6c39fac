-- The cells that a rim reads, step by step: from one coordinate of a rim to the next the coordinate that is read moves by one step of its mode.
-- Assumes nothing.
use mathlib.Core.Path.{◌≡◌, refl, sym, ap, ◌∙◌}
use mathlib.Core.Bool.{false}
use mathlib.Core.Logic.{inl, inr}
use Prim.Native.Nat.{ℕ, ◌+◌, ◌-◌, ◌*◌, ◌≤◌, ◌<◌}
use native.Mathlib.Nat.{le_refl}
use native.Mathlib.Omega.{arith}
use borrow.Author.Tests.{lt-ltb, le-ltb, ltb-false}
use lib.Dec.{ltb}
use Rattle.numbers.proofs.Tests.{cond_yes, cond_no}
use Rattle.border.specs.Border.{cell_before, cell_after}
use Rattle.border.specs.declared.CellBorder.{CellBorder}
use Rattle.border.specs.declared.CellBorder.TheVariants.{Nearest, Mirror, Reflect, Wrap}
use Rattle.border.specs.Reach.{bad_along}
use Rattle.pad_spec.specs.Runs.{Runs, InRim, read_from}
use Rattle.pad_line.specs.Steps.{step_up, step_down}
use Rattle.pad_line.proofs.RimSteps.{before_steps, after_steps, one_way}
use Rattle.pad_copy_axis.specs.Steps.{StepsOf}
use Rattle.pad_copy_axis.proofs.CopiedRims.{rim_below, rim_off, read-middle}

module _ {m : CellBorder} {p s blocks left n len : ℕ} (R : Runs m p s blocks left n len) where
  at_before : {k : ℕ} → k < left → read_from m left n k ≡ left + cell_before m n (left - k)
  at_before {k} h = cond_yes (ltb k left) _ _ (lt-ltb k left h)

  at_after : {k : ℕ} → left + n ≤ k → read_from m left n k ≡ left + cell_after m n (k + 1 - (left + n))
  at_after {k} h = cond_no (ltb k left) _ _ (le-ltb k left (omega arith))

  -- j coordinates on, in the same rim
  pub read_steps : (a j : ℕ) → ((k : ℕ) → a ≤ k → k ≤ a + j → InRim left n p k) → read_from m left n a + step_up m * j ≡ read_from m left n (a + j) + step_down m * j
  read_steps a j h = go (h a (omega arith) (omega arith)) (h (a + j) (omega arith) (omega arith))
    where
      go : InRim left n p a → InRim left n p (a + j) → read_from m left n a + step_up m * j ≡ read_from m left n (a + j) + step_down m * j
      go (inl x) (inl y) = ap (λ r. r + step_up m * j) (at_before x) ∙ before_steps m left n a j y R.fills_left ∙ sym (ap (λ r. r + step_down m * j) (at_before y))
      go (inl x) (inr y) = absurd (rim_off n (h left (omega arith) (omega (arith, y.0))) (le_refl left) (omega (arith, R.some)))
      go (inr x) (inl y) = absurd (omega (arith, x.0))
      go (inr x) (inr y) =
          ap (λ r. r + step_up m * j) (at_after x.0) ∙ after_steps m left n (p - (left + n)) a j R.some x.0 (omega (arith, y.1)) R.fills_right
          ∙ sym (ap (λ r. r + step_down m * j) (at_after y.0))

-- ---- the place that is read is up and down steps from the first one
module _ {m : CellBorder} {left n a from up down : ℕ} (S : StepsOf m left n a from up down) where
  module _ {p s blocks len count : ℕ} (R : Runs m p s blocks left n len) (rims : (k : ℕ) → a ≤ k → k < a + count → InRim left n p k) (j : ℕ) (h : j < count) where
    pub step-at : from + up * j ≡ read_from m left n (a + j) + down * j
    step-at = (λ i. S.first i + S.on i * j) ∙ read_steps R a j (λ k lo hi. rims k lo (omega arith)) ∙ (λ i. read_from m left n (a + j) + sym S.back i * j)

    pub step_in : (left ≤ read_from m left n (a + j)) × (read_from m left n (a + j) < left + n)
    step_in = read-middle R (rims (a + j) (omega arith) (omega arith))

    pub step_ahead : from + up * j < left + n
    step_ahead =
        omega (
          arith,
          ap (λ x. x * j) S.on,
          one_way m from (read_from m left n (a + j)) j (left + n)
              (ap (λ x. from + x * j) (sym S.on) ∙ step-at ∙ ap (λ x. read_from m left n (a + j) + x * j) S.back) start step_in.1,
        )
      where
        start : from < left + n
        start = omega (arith, S.first, (read-middle R (rims a (omega arith) (omega arith))).1)

    pub side-below : a + j < p
    side-below = rim_below n (rims (a + j) (omega arith) (omega arith)) R.room

  pub first_in_lem : {p s blocks len count : ℕ} → Runs m p s blocks left n len → ((k : ℕ) → a ≤ k → k < a + count → InRim left n p k) → 0 < count → from < p
  first_in_lem R rims h = omega (arith, S.first, (read-middle R (rims a (omega arith) (omega arith))).1, R.room)
