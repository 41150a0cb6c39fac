-- The cells that the rims of a lane read, step by step: from one place of a rim to the next the cell that is read moves by one step of its border. So both rims are cells
-- copied by steps, over any element.
-- Assumes nothing.
use mathlib.Core.Path.{◌≡◌, refl, sym, ap, ◌∙◌}
use mathlib.Core.Bool.{Bool, true, false, true≢false}
use mathlib.Core.List.{List}
use Prim.Native.Nat.{ℕ, ◌+◌, ◌-◌, ◌*◌, ◌≤◌, ◌<◌}
use native.Mathlib.Omega.{arith}
use borrow.Author.Tests.{ltb-true, ltb-false, lt-ltb, le-ltb}
use lib.Dec.{ltb}
use lib.ListN.{length, get_or}
use Rattle.numbers.proofs.Stored.{stored_over}
use Rattle.lanes.proofs.Part.{on_row, row_in, row_yes}
use Rattle.border.specs.Border.{along, cell_before, cell_after}
use Rattle.border.specs.declared.CellBorder.{CellBorder}
use Rattle.border.specs.declared.CellBorder.TheVariants.{Nearest, Mirror, Reflect, Wrap}
use Rattle.pad_line.specs.Steps.{step_up, step_down, StepNeeds, step_set}
use Rattle.pad_line.proofs.StepByStep.{stepped_cell, set_stored}
use Rattle.pad_line.specs.Line.{pad_middle}
use Rattle.border.specs.Reach.{bad_along}
use Rattle.pad_line.specs.Rims.{RimNeeds}
use Rattle.pad_line.proofs.Reach.{cell-before_in, cell-after_in}
use Rattle.pad_line.proofs.Rims.{Filled, level_at, level_before, level-after, filled_none, filled-middle, filled-all}

-- ---- j places on, in the same rim
pub before_steps : (m : CellBorder) (left n a j : ℕ) → a + j < left → bad_along m n left ≡ false → left + cell_before m n (left - a) + step_up m * j
    ≡ left + cell_before m n (left - (a + j)) + step_down m * j
before_steps Nearest left n a j h b = omega arith
before_steps Mirror left n a j h b = omega arith
before_steps Reflect left n a j h b = omega arith
before_steps Wrap left n a j h b = omega (arith, ltb-false n left b)

pub after_steps : (m : CellBorder) (left n right a j : ℕ) → 0 < n → left + n ≤ a → a + j + 1 - (left + n) ≤ right → bad_along m n right ≡ false
    → left + cell_after m n (a + 1 - (left + n)) + step_up m * j ≡ left + cell_after m n (a + j + 1 - (left + n)) + step_down m * j
after_steps Nearest left n right a j z h l b = omega arith
after_steps Mirror left n right a j z h l b = omega (arith, ltb-false (n - 1) right b)
after_steps Reflect left n right a j z h l b = omega (arith, ltb-false n right b)
after_steps Wrap left n right a j z h l b = omega arith

-- ---- no border steps both ways, so a step on ends where a cell is read, or starts there
pub one_way : (m : CellBorder) (from to j last : ℕ) → from + step_up m * j ≡ to + step_down m * j → from < last → to < last → from + step_up m * j < last
one_way Nearest from to j last e f t = omega arith
one_way Mirror from to j last e f t = omega arith
one_way Reflect from to j last e f t = omega arith
one_way Wrap from to j last e f t = omega arith

-- ---- the cell that the first place of a rim reads is no further than the end of the lane, even where the rim has no place
pub before-first : (m : CellBorder) (n left : ℕ) → bad_along m n left ≡ false → cell_before m n left ≤ n
before-first Nearest n left b = omega arith
before-first Mirror n left b = omega (arith, ltb-false (n - 1) left b)
before-first Reflect n left b = omega (arith, ltb-false n left b)
before-first Wrap n left b = omega arith

pub after_first : (m : CellBorder) (n : ℕ) → cell_after m n 1 ≤ n
after_first Nearest n = omega arith
after_first Mirror n = omega arith
after_first Reflect n = omega arith
after_first Wrap n = omega arith

-- ---- a lane that stands in the middle of a line, with room for both rims
pub rimmed : (m : CellBorder) {left n right len : ℕ} → (0 < n) × (left + n + right ≤ len) × (bad_along m n left ≡ false) × (bad_along m n right
    ≡ false) → RimNeeds m (step_up m) (step_down m) left n right len
rimmed m h = record { some = h.0; room = h.1; fills_left = h.2; fills_right = h.3; on = refl; back = refl }

module _ {m : CellBorder} {up down left n right len : ℕ} (R : RimNeeds m up down left n right len) where
  -- the rim before it
  module _ {from : ℕ} (first : from ≡ left + cell_before m n left) (j : ℕ) (h : j < left) where
    pub before_place : from + up * j ≡ left + cell_before m n (left - j) + down * j
    before_place =
        (λ i. first i + R.on i * j) ∙ ap (λ x. left + cell_before m n x + step_up m * j) none ∙ before_steps m left n 0 j (omega arith) R.fills_left
        ∙ ap (λ x. left + cell_before m n (left - x) + step_down m * j) same ∙ (λ i. left + cell_before m n (left - j) + sym R.back i * j)
      where
        none : left ≡ left - 0
        none = omega arith

        same : 0 + j ≡ j
        same = omega arith

    pub before_in : cell_before m n (left - j) < n
    before_in = cell-before_in m n left (left - j) R.some (omega arith) (omega arith) R.fills_left refl

    before_ahead : from + up * j < left + n
    before_ahead =
        let e = cell-before_in m n left left R.some (omega arith) (omega arith) R.fills_left refl in
        omega (
          arith,
          ap (λ x. x * j) R.on,
          one_way m from (left + cell_before m n (left - j)) j (left + n)
              (ap (λ x. from + x * j) (sym R.on) ∙ before_place ∙ ap (λ x. left + cell_before m n (left - j) + x * j) R.back) (omega (arith, first, e)) (omega (arith, before_in)),
        )

  pub before_stepped : {from : ℕ} → from ≡ left + cell_before m n left → StepNeeds up down from 0 left len
  before_stepped first = record {
    ahead = λ j h. omega (arith, before_ahead first j h, R.room);
    behind = λ j h. omega (arith, before_place first j h);
    kept = λ j h lo hi. omega (arith, before_place first j h);
    stores = λ j h. omega (arith, R.room);
  }

  -- the rim after it
  module _ {from : ℕ} (first : from ≡ left + cell_after m n 1) (j : ℕ) (h : j < right) where
    pub after_place : from + up * j ≡ left + cell_after m n (left + n + j + 1 - (left + n)) + down * j
    after_place =
        (λ i. first i + R.on i * j) ∙ ap (λ x. left + cell_after m n x + step_up m * j) one
        ∙ after_steps m left n right (left + n) j R.some (omega arith) (omega arith) R.fills_right ∙ (λ i. left + cell_after m n (left + n + j + 1 - (left + n)) + sym R.back i * j)
      where
        one : 1 ≡ left + n + 1 - (left + n)
        one = omega arith

    pub after_in : cell_after m n (left + n + j + 1 - (left + n)) < n
    after_in = cell-after_in m n right (left + n + j + 1 - (left + n)) R.some (omega arith) (omega arith) R.fills_right refl

    after_ahead : from + up * j < left + n
    after_ahead =
        let e = cell-after_in m n right 1 R.some (omega arith) (omega arith) R.fills_right refl in
        omega (
          arith,
          ap (λ x. x * j) R.on,
          one_way m from (left + cell_after m n (left + n + j + 1 - (left + n))) j (left + n)
              (ap (λ x. from + x * j) (sym R.on) ∙ after_place ∙ ap (λ x. left + cell_after m n (left + n + j + 1 - (left + n)) + x * j) R.back) (omega (arith, first, e)) (omega (arith, after_in)),
        )

  pub after_stepped : {from len' : ℕ} → len' ≡ len → from ≡ left + cell_after m n 1 → StepNeeds up down from (left + n) right len'
  after_stepped long first = record {
    ahead = λ j h. omega (arith, after_ahead first j h, R.room, long);
    behind = λ j h. omega (arith, after_place first j h);
    kept = λ j h lo hi. omega (arith, after_place first j h, after_in first j h);
    stores = λ j h. omega (arith, R.room, long);
  }

  -- ---- both rims, one after the other
  module _ {A : Type 0} (d : A) where
    pub before-filled : {from : ℕ} (l₀ : List A) {l₁ : List A} → length l₀ ≡ len → from ≡ left + cell_before m n left → l₁ ≡ step_set d up down from 0 left l₀ → Filled d (along m) left n l₀ l₁ left
    before-filled {from} l₀ {l₁} long first e = record {
      stored =
          stored_over d (λ k. ltb k 0) (on_row 0 left) (λ k. ltb k left) (stepped_cell d up down from 0 l₀) (level_at d (along m) left n l₀) (filled_none d (along m) left n l₀).stored
          (set_stored d up down from 0 left l₀ l₁ e) (λ k b q. hit k (omega (arith, (row_in 0 left k q).1))) (λ k b q. miss k q (ltb k left) refl);
    }
      where
        hit : (k : ℕ) → k < left → (ltb k left ≡ true) × (stepped_cell d up down from 0 l₀ k ≡ level_at d (along m) left n l₀ k)
        hit k h = (lt-ltb k left h, at (k - 0) (omega arith) ∙ level_before d m left n l₀ (omega (arith, long, R.room)) k h (before_in first k h))
          where
            at : (j : ℕ) → j ≡ k → get_or l₀ (from + up * j - down * j) d ≡ get_or l₀ (left + cell_before m n (left - k)) d
            at j e = ap (λ x. get_or l₀ (from + up * x - down * x) d) e ∙ ap (λ x. get_or l₀ x d) (omega (arith, before_place first k h))

        miss : (k : ℕ) → on_row 0 left k ≡ false → (t : Bool) → ltb k left ≡ t → t ≡ ltb k 0
        miss k q false e = sym (le-ltb k 0 (omega arith))
        miss k q true e = absurd (true≢false (sym (row_yes 0 left k (omega arith) (omega (arith, ltb-true k left e))) ∙ q))

    pub after_filled : {from : ℕ} (l₁ : List A) {l₂ : List A} → length l₁ ≡ len → from ≡ left + cell_after m n 1 → Filled d (along m) left n l₁ l₁ (left + n) → l₂
        ≡ step_set d up down from (left + n) right l₁
        → Filled d (along m) left n l₁ l₂ (left + n + right)
    after_filled {from} l₁ {l₂} long first F e = record {
      stored =
          stored_over d (λ k. ltb k (left + n)) (on_row (left + n) right) (λ k. ltb k (left + n + right)) (stepped_cell d up down from (left + n) l₁) (level_at d (along m) left n l₁) F.stored
          (set_stored d up down from (left + n) right l₁ l₂ e) (λ k b q. hit k (row_in (left + n) right k q).0 (row_in (left + n) right k q).1)
          (λ k b q. miss k q (ltb k (left + n)) refl (ltb k (left + n + right)) refl);
    }
      where
        hit : (k : ℕ) → left + n ≤ k → k < left + n + right → (ltb k (left + n + right) ≡ true) × (stepped_cell d up down from (left + n) l₁ k ≡ level_at d (along m) left n l₁ k)
        hit k lo hi = (lt-ltb k (left + n + right) hi, at (k - (left + n)) (omega arith) (omega arith))
          where
            at : (j : ℕ) → j < right → left + n + j ≡ k → get_or l₁ (from + up * j - down * j) d ≡ level_at d (along m) left n l₁ k
            at j h p =
                ap (λ x. get_or l₁ x d) (omega (arith, after_place first j h))
                ∙ level-after d m left n l₁ (omega (arith, long, R.room)) (left + n + j) (omega arith) (after_in first j h) ∙ ap (level_at d (along m) left n l₁) p

        miss : (k : ℕ) → on_row (left + n) right k ≡ false → (t : Bool) → ltb k (left + n) ≡ t → (u : Bool) → ltb k (left + n + right) ≡ u → u ≡ t
        miss k q true x true y = refl
        miss k q true x false y = absurd (omega (arith, ltb-true k (left + n) x, ltb-false k (left + n + right) y))
        miss k q false x false y = refl
        miss k q false x true y = absurd (true≢false (sym (row_yes (left + n) right k (omega (arith, ltb-false k (left + n) x)) (omega (arith, ltb-true k (left + n + right) y))) ∙ q))

    pub rims_filled : {from from' : ℕ} (l₀ l₁ : List A) {l₂ : List A} → length l₀ ≡ len → from ≡ left + cell_before m n left → l₁ ≡ step_set d up down from 0 left l₀ → from' ≡ left + cell_after m n 1
        → l₂ ≡ step_set d up down from' (left + n) right l₁ → l₂ ≡ pad_middle d (along m) left n right l₀
    rims_filled l₀ l₁ long first e first' e' =
        let E = before-filled l₀ long first e in
        filled-all E refl (omega (arith, long, R.room)) right (omega (arith, long, R.room)) refl
        (after_filled l₁ (E.stored.kept ∙ long) first' (filled-middle E refl (omega (arith, long, R.room))) e')
