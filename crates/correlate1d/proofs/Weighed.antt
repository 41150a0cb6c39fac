-- An accepted call of two weights or more as the workers do it: every lane of the axis is filtered with the pads of the applied origin.
-- Assumes nothing.
use mathlib.Core.Path.{◌≡◌, sym, ap, subst, ◌∙◌}
use mathlib.Core.Bool.{Bool, false, not, ◌&&◌, and-false}
use mathlib.Core.List.{List}
use Prim.Native.Nat.{ℕ, ◌+◌}
use native.Mathlib.Omega.{arith}
use borrow.Author.Tests.{ne_eqb}
use lib.Dec.{eqb}
use lib.IntN.{ℤ}
use lib.ListN.{length}
use Rattle.numbers.proofs.Tests.{or_false, cond_no}
use Rattle.array_spec.specs.Grid.{length_of}
use Rattle.lanes.specs.Lanes.{along_axis}
use Rattle.border.specs.Border.{Border}
use Rattle.border.specs.Reach.{bad_pad}
use Rattle.pad_line.specs.Lane.{AxisNeeds}
use Rattle.direction.specs.Direction.{directed}
use Rattle.direction.proofs.Directed.{directed-length}
use Rattle.symmetry_spec.specs.declared.SymmetryState.{SymmetryState}
use Rattle.window_spec.specs.Window.{bad_window_origin, left_pad, right_pad}
use Rattle.window_spec.proofs.Reach.{pads_size, reach-more}
use Rattle.correlate_spec.specs.Weighed.{Ops}
use Rattle.correlate_spec.specs.Correlated.{correlated_line, correlated_by}
use Rattle.correlate1d.specs.WeighNeeds.{PlaceNeeds, WeighNeeds}

-- the same call by another name of its origin
pub weighs_as : {b : Border ℤ} {ns : List ℕ} {a : ℕ} {o q : ℤ} {w cells out : List ℤ} → WeighNeeds b ns a o w cells out → q ≡ o → WeighNeeds b ns a q w cells out
weighs_as {b} {ns} {a} {o} {q} {w} {cells} {out} W e = subst (λ (x : ℤ). WeighNeeds b ns a x w cells out) (sym e) W

pub placed_as : {A : Type 0} {b : Border A} {ns : List ℕ} {a : ℕ} {o q : ℤ} {w cells out : List A} → PlaceNeeds b ns a o w cells out → q ≡ o → PlaceNeeds b ns a q w cells out
placed_as {A} {b} {ns} {a} {o} {q} {w} {cells} {out} W e = subst (λ (x : ℤ). PlaceNeeds b ns a x w cells out) (sym e) W

module _ {A : Type 0} {b : Border A} {ns : List ℕ} {a : ℕ} {o : ℤ} {w cells out : List A} (W : PlaceNeeds b ns a o w cells out) where
  pub window_origin : bad_window_origin (length w) o ≡ false
  window_origin = ap (λ t. not (eqb (length w) 1) && t) W.origin ∙ and-false (not (eqb (length w) 1))

  pub two_weights : length w ≡ 1 → ⊥
  two_weights e = omega (arith, W.more)

  module _ {l g : ℕ} (L : l ≡ left_pad (length w) o) (G : g ≡ right_pad (length w) o) where
    pub pads_total : l + g + 1 ≡ length w
    pads_total = (λ j. L j + G j + 1) ∙ pads_size (length w) o W.origin

    pub sweep_weighed : AxisNeeds b ns a l g cells out
    sweep_weighed =
        let p = or_false (bad_pad b (length_of ns a) (left_pad (length w) o)) (bad_pad b (length_of ns a) (right_pad (length w) o)) (reach-more (length w) o two_weights b (length_of ns a) ∙ W.reach) in
        record {
          shape = W.shape;
          axis = W.axis;
          count = W.count;
          same = W.same;
          fills_left = ap (bad_pad b (length_of ns a)) L ∙ p.0;
          fills_right = ap (bad_pad b (length_of ns a)) G ∙ p.1;
          narrow = omega (arith, pads_total, W.few);
        }

    -- in either direction
    pub weighed_answer : (ops : Ops A) (class : SymmetryState) (backward : Bool) {left : List A}
        → left ≡ along_axis ops.past (correlated_line ops class b l g (directed backward w)) ns a cells → left ≡ correlated_by ops class b o (directed backward w) ns a cells
    unfolding correlated_by
    weighed_answer ops class backward {left} e =
        let n = directed-length backward w in
        let v = directed backward w in
        e ∙ (λ j. along_axis ops.past (correlated_line ops class b ((L ∙ ap (λ m. left_pad m o) (sym n)) j) ((G ∙ ap (λ m. right_pad m o) (sym n)) j) v) ns a cells)
        ∙ sym (cond_no (eqb (length v) 1) _ _ (ne_eqb (length v) 1 (λ h. two_weights (sym n ∙ h))))
