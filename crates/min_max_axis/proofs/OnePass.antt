-- An accepted one-axis call as the workers do it: a copy where the window is one cell, else every lane of the axis with the call's pads.
-- Assumes nothing.
use mathlib.Core.Path.{◌≡◌, sym, ap, ◌∙◌}
use mathlib.Core.Bool.{Bool, false, not, ◌&&◌, ◌||◌}
use mathlib.Core.List.{List}
use Prim.Native.Nat.{ℕ, ◌+◌, ◌≤◌, ◌<◌}
use native.Mathlib.Omega.{arith}
use borrow.Author.Tests.{eq-eqb, ne_eqb, ltb-true, ltb-false, not-false}
use lib.Dec.{ltb}
use lib.IntN.{ℤ, pos}
use lib.ListN.{length}
use Rattle.numbers.proofs.Tests.{or_false, cond_yes}
use Rattle.array_spec.specs.Assign.{copied}
use Rattle.array_spec.proofs.Judged.{lent_same}
use Rattle.lanes.specs.Lanes.{lane_at, along_axis}
use Rattle.border.specs.Border.{Border}
use Rattle.pad_line.specs.Line.{padded_line}
use Rattle.border.specs.Reach.{bad_pad}
use Rattle.pad_line.specs.Lane.{LineNeeds, AxisNeeds}
use Rattle.pad_line.proofs.OneLane.{length-line}
use Rattle.min_max_ring.specs.Extremes.{extremes, RingNeeds}
use Rattle.min_max_spec.specs.Call.{Call, alone, axis_length, number_of}
use Rattle.window_spec.specs.Window.{left_pad, right_pad}
use Rattle.min_max_spec.specs.Run.{answer_of}
use Rattle.min_max_spec.proofs.Passed.{Passed, passed}
use Rattle.min_max_axis.specs.Lane.{extremes_of}
use Rattle.min_max_axis.proofs.ByLanes.{line_of, answer_lanes, answer_copied, pads_size}

-- a padded lane that has room serves the ring, where the window has two cells or more
pub lane_served : {b : Border ℤ} {n s base left right : ℕ} {g line : List ℤ} → LineNeeds b n s base left right g line → 0 < left + right
    → RingNeeds (length (padded_line (pos 0) b left right (lane_at (pos 0) g base s n))) (left + right + 1) n
lane_served R h = let e = length-line (pos 0) R in record { wide = omega arith; narrow = omega (arith, R.narrow); short = omega (arith, R.padding.fits, R.buffer); cells = omega arith }

module _ (le : ℤ → ℤ → Bool) (cells : List ℤ) (c : Call) (accept : number_of cells c ≡ 0) where
  P : Passed cells c
  P = passed cells c accept

  same : length c.out ≡ length cells
  same = lent_same P.grid

  pub copied_answer : {out : List ℤ} → c.size ≡ 1 → out ≡ copied cells c.out → out ≡ answer_of le cells c
  copied_answer one e =
      e ∙ cond_yes _ cells c.out (eq-eqb (length cells) (length c.out) (sym same)) ∙ sym (answer_copied le cells c accept (eq-eqb c.size 1 one))

  module _ (more : c.size ≡ 1 → ⊥) where
    padded : alone c ≡ false
    padded = ne_eqb c.size 1 more

    fills : (bad_pad c.border (axis_length c) (left_pad c.size c.origin) ≡ false) × (bad_pad c.border (axis_length c) (right_pad c.size c.origin) ≡ false)
    fills =
        let l = bad_pad c.border (axis_length c) (left_pad c.size c.origin) in
        let r = bad_pad c.border (axis_length c) (right_pad c.size c.origin) in
        or_false l r (ap (λ t. not t && (l || r)) (sym padded) ∙ P.pads)

    sizes : (1 ≤ c.size) × (c.size ≤ 65)
    sizes = let p = or_false (ltb c.size 1) (ltb 65 c.size) P.size in (omega (arith, ltb-false c.size 1 p.0), omega (arith, ltb-false 65 c.size p.1))

    module _ {l g : ℕ} (L : l ≡ left_pad c.size c.origin) (G : g ≡ right_pad c.size c.origin) where
      total : l + g + 1 ≡ c.size
      total = (λ j. L j + G j + 1) ∙ pads_size cells c P padded

      pub window_wide : 0 < l + g
      window_wide = some (l + g) (λ z. more (sym total ∙ ap (λ x. x + 1) z))
        where
          some : (k : ℕ) → (k ≡ 0 → ⊥) → 0 < k
          some k h = omega arith

      pub sweep_accepted : AxisNeeds c.border c.shape c.axis l g cells c.out
      sweep_accepted = record {
        shape = P.grid.shape;
        axis = ltb-true c.axis (length c.shape) (not-false (ltb c.axis (length c.shape)) P.axis);
        count = P.grid.count;
        same = same;
        fills_left = ap (bad_pad c.border (axis_length c)) L ∙ fills.0;
        fills_right = ap (bad_pad c.border (axis_length c)) G ∙ fills.1;
        narrow = omega (arith, total, sizes.1);
      }

      lines : (s : List ℤ) → extremes_of le c.border l g s ≡ line_of le c s
      unfolding extremes
      lines s = (λ j. extremes le (padded_line (pos 0) c.border (L j) (G j) s) (total j) (length s))

      pub swept_answer : {out : List ℤ} → out ≡ along_axis (pos 0) (extremes_of le c.border l g) c.shape c.axis cells → out ≡ answer_of le cells c
      swept_answer e = e ∙ ap (λ (f : List ℤ → List ℤ). along_axis (pos 0) f c.shape c.axis cells) (λ j s. lines s j) ∙ sym (answer_lanes le cells c accept padded)
