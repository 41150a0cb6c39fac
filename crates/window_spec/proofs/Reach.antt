-- The pads of a window of more than one cell whose origin condition 7 accepts, and whether the border fills them.
-- Assumes nothing.
use mathlib.Core.Path.{◌≡◌, sym, ap, ◌∙◌}
use mathlib.Core.Bool.{Bool, false, not, ◌&&◌}
use mathlib.Core.List.{List}
use Prim.Native.Nat.{ℕ, ◌+◌}
use native.Mathlib.Omega.{arith}
use borrow.Author.Tests.{eq-eqb, ne_eqb}
use lib.Dec.{eqb}
use lib.IntN.{ℤ}
use Rattle.border.specs.Axes.{any_axis}
use Rattle.border.specs.Border.{Border}
use Rattle.border.proofs.AnyAxis.{axis_and}
use Rattle.window_spec.specs.Origin.{bad_origin, origin_pads}
use Rattle.window_spec.specs.Window.{left_of, right_of, left_pad, right_pad, bad_window_origin, bad_either_pad, bad_reach}
use Rattle.window_spec.specs.declared.Origin.{Origin}
use Rattle.window_spec.specs.declared.Origin.TheVariants.{Pads, Refused}
use Rattle.window_spec.proofs.Answered.{not_refused, left_is, right_is}
use Rattle.window_spec.proofs.Origins.{pads_sum, axis-accepted, accepted_some}

-- the cells of a window are its pads and the cell itself
pub pads_size : (size : ℕ) (o : ℤ) → bad_origin size o ≡ false → left_pad size o + right_pad size o + 1 ≡ size
pads_size size o h = omega (arith, pads_sum (left_of size) (right_of size) o (axis-accepted size o h), accepted_some size o h)

-- a window of one cell reads no origin and needs no pad
pub single-cell : (size : ℕ) (t : Bool) → size ≡ 1 → false ≡ not (eqb size 1) && t
single-cell size t e = sym (ap (λ x. not x && t) (eq-eqb size 1 e))

pub single_any : {A : Type 0} (bs : ℕ → Border A) (size : ℕ) (o : ℤ) (ns : List ℕ) → size ≡ 1 → false ≡ any_axis (λ b. bad_reach b size o) bs ns
single_any bs size o ns e =
    single-cell size (any_axis (λ b. bad_either_pad b (left_pad size o) (right_pad size o)) bs ns) e
    ∙ sym (axis_and (not (eqb size 1)) (λ b. bad_either_pad b (left_pad size o) (right_pad size o)) bs ns)

module _ (size : ℕ) (o : ℤ) (more : size ≡ 1 → ⊥) where
  pub more-cells : (t : Bool) → t ≡ not (eqb size 1) && t
  more-cells t = sym (ap (λ x. not x && t) (ne_eqb size 1 more))

  pub origin_accepted : bad_window_origin size o ≡ false → bad_origin size o ≡ false
  origin_accepted h = more-cells (bad_origin size o) ∙ h

  pub reach-more : {A : Type 0} (b : Border A) (n : ℕ) → bad_either_pad b (left_pad size o) (right_pad size o) n ≡ bad_reach b size o n
  reach-more b n = more-cells (bad_either_pad b (left_pad size o) (right_pad size o) n)

  pub reach-more_any : {A : Type 0} (bs : ℕ → Border A) (ns : List ℕ) → any_axis (λ b. bad_either_pad b (left_pad size o) (right_pad size o)) bs ns ≡ any_axis (λ b. bad_reach b size o) bs ns
  reach-more_any bs ns =
      more-cells (any_axis (λ b. bad_either_pad b (left_pad size o) (right_pad size o)) bs ns)
      ∙ sym (axis_and (not (eqb size 1)) (λ b. bad_either_pad b (left_pad size o) (right_pad size o)) bs ns)

  module _ (h : bad_window_origin size o ≡ false) {r : Origin} (e : r ≡ origin_pads size (left_of size) (right_of size) o) where
    pub origin_refused : r ≡ Refused → ⊥
    origin_refused q = not_refused size (left_of size) (right_of size) o (origin_accepted h) e q

    pub record PadsAre (l g : ℕ) : Type 0 where
      pub left : l ≡ left_pad size o
      pub right : g ≡ right_pad size o

    pub pads_are : {l g : ℕ} → r ≡ Pads l g → PadsAre l g
    pads_are q =
        record { left = left_is size (left_of size) (right_of size) o (origin_accepted h) e q; right = right_is size (left_of size) (right_of size) o (origin_accepted h) e q }

    pub reach_is : {A : Type 0} (b : Border A) (n : ℕ) {l g : ℕ} → r ≡ Pads l g → bad_either_pad b l g n ≡ bad_reach b size o n
    reach_is b n q = let P = pads_are q in (λ j. bad_either_pad b (P.left j) (P.right j) n) ∙ reach-more b n

    pub reach_any_is : {A : Type 0} (bs : ℕ → Border A) (ns : List ℕ) {l g : ℕ} → r ≡ Pads l g → any_axis (λ b. bad_either_pad b l g) bs ns ≡ any_axis (λ b. bad_reach b size o) bs ns
    reach_any_is bs ns q = let P = pads_are q in (λ j. any_axis (λ b. bad_either_pad b (P.left j) (P.right j)) bs ns) ∙ reach-more_any bs ns
