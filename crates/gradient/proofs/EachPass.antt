-- An accepted call: what each condition says, that every pass can be weighed, and that the passes, one after the other, are its answer.
-- Assumes nothing.
use Prim.Native.Nat.{ℕ, zero, suc, ◌*◌, ◌^◌, ◌≤◌, ◌<◌}
use mathlib.Core.Path.{◌≡◌, refl, sym, ap, subst, ◌∙◌}
use mathlib.Core.Bool.{false}
use mathlib.Core.List.{List, [], ◌∷◌}
use native.Mathlib.Omega.{arith}
use borrow.Author.Tests.{ltb-true, not-false}
use lib.Dec.{eqb, ltb}
use lib.IntN.{ℤ, pos}
use lib.ListN.{length, drop}
use Rattle.numbers.specs.Lists.{any_of}
use Rattle.numbers.specs.Refusal.{refusal_of}
use Rattle.numbers.proofs.Any.{none_any, every_imp}
use Rattle.numbers.proofs.Size.{Size, Sized, size_le, inside_sized, tested_sized}
use Rattle.numbers.proofs.Tests.{or_no, cond_ind}
use Rattle.array_spec.specs.Conditions.{bad_level, bad_axis}
use Rattle.array_spec.specs.Grid.{cell_count, length_of}
use Rattle.array_spec.proofs.Judged.{PassedGrid, grid_passed, levels_sized}
use Rattle.border.specs.Border.{Border}
use Rattle.border.specs.Axes.{any_axis, bad_constants}
use Rattle.border.specs.Modes.{bad_constant_by}
use Rattle.border.proofs.AnyAxis.{axis-at}
use Rattle.window_spec.specs.Origin.{bad_origin}
use Rattle.border.specs.Reach.{bad_pad}
use Rattle.window_spec.specs.Window.{bad_reach}
use Rattle.correlate_spec.specs.Correlated.{correlate1d_z}
use Rattle.correlate_spec.proofs.Bounds.{border_le, length_answer}
use Rattle.correlate_judge_spec.specs.Judge.{bad_weight}
use Rattle.correlate1d.specs.WeighNeeds.{WeighNeeds}
use Rattle.correlate1d.proofs.Accepted.{small_constant, small_sized}
use Rattle.gradient_spec.specs.Gradient.{difference, gradient_to, gradient}
use Rattle.gradient_spec.specs.Judge.{ThreeSmall, gradient_judged}
use Rattle.gradient_spec.proofs.Sums.{SizedBorders, constants_sized, pass_sized}
use Rattle.gradient.specs.Others.{first_other, last_other}

-- ---- what an accepted call has passed
pub axis_in : (ns : List ℕ) (axis : ℕ) → bad_axis ns axis ≡ false → axis < length ns
axis_in ns axis e = ltb-true axis (length ns) (not-false (ltb axis (length ns)) e)

pub record Accepted (bs : ℕ → Border ℤ) (ns : List ℕ) (axis : ℕ) (cells : List ℤ) (out second : ℕ) : Type 0 where
  pub grid : PassedGrid bad_level ns cells (out ∷ second ∷ [])
  pub along : axis < length ns
  pub level : bad_constants bad_level bs ns ≡ false
  pub reach : any_axis (λ b n. bad_pad b n 1) bs ns ≡ false

pub accepted : (smooth : List ℤ) (bs : ℕ → Border ℤ) (ns : List ℕ) (axis : ℕ) (cells : List ℤ) (out second : ℕ) → refusal_of (gradient_judged smooth bs ns axis cells out second) ≡ 0
    → Accepted bs ns axis cells out second
accepted smooth bs ns axis cells out second e =
    let p = grid_passed bad_level ns cells (out ∷ second ∷ []) (drop 3 (gradient_judged smooth bs ns axis cells out second)) (tt, (tt, (tt, (tt, tt)))) e in
    record { grid = p.0; along = axis_in ns axis p.1.0; level = p.1.1.0; reach = p.1.1.1.0 }

-- ---- a grid between two passes, of levels and constants of size at most p
pub record Between (bs : ℕ → Border ℤ) (ns : List ℕ) (p : ℕ) (g : List ℤ) : Type 0 where
  pub count : length g ≡ cell_count ns
  pub constants : SizedBorders p bs ns
  pub sizes : Sized p g

-- weights of a pass are no heavier than condition 6 accepts
small_weights : (w : List ℤ) → ThreeSmall w → any_of bad_weight w ≡ false
unfolding bad_weight
small_weights w S = none_any bad_weight w (every_imp (λ x. Size x 2) _ w (λ x s. inside_sized 65535 x (size_le s (omega arith))) (tested_sized 2 w S.small))

centred : bad_origin 3 (pos 0) ≡ false
unfolding bad_origin
centred = refl

module _ {bs : ℕ → Border ℤ} {ns : List ℕ} {axis : ℕ} {cells : List ℤ} {out second : ℕ} (A : Accepted bs ns axis cells out second) where
  pub between_input : Between bs ns 2147483647 cells
  between_input = record { count = A.grid.count; constants = constants_sized bs ns A.level; sizes = levels_sized cells A.grid.levels }

  module _ {w : List ℤ} (S : ThreeSmall w) {p : ℕ} {g : List ℤ} (B : Between bs ns p g) {a : ℕ} (h : a < length ns) where
    -- a pass along any axis can be weighed, into any grid of as many cells
    pub weighs_pass : p ≤ 2 ^ 38 → {held : List ℤ} → length held ≡ cell_count ns → WeighNeeds (bs a) ns a (pos 0) w g held
    weighs_pass l {held} e = record {
      placed = record {
        shape = A.grid.shape;
        axis = h;
        count = B.count;
        same = e ∙ sym B.count;
        more = omega (arith, S.three);
        few = omega (arith, S.three);
        origin = ap (λ n. bad_origin n (pos 0)) S.three ∙ centred;
        reach = ap (λ n. bad_reach (bs a) n (pos 0) (length_of ns a)) S.three ∙ or_no (bad_pad (bs a) (length_of ns a) 1) (bad_pad (bs a) (length_of ns a) 1) filled filled;
      };
      small = record {
        weights = small_weights w S;
        level = small_constant (bs a) (axis-at (λ b n. bad_constant_by bad_level b) bs ns A.level a h);
        levels = small_sized g B.sizes l;
        narrow = λ h. absurd (omega (arith, S.three));
      };
    }
      where
        filled : bad_pad (bs a) (length_of ns a) 1 ≡ false
        filled = axis-at (λ b n. bad_pad b n 1) bs ns A.reach a h

    pub between_pass : {new : List ℤ} → new ≡ correlate1d_z (bs a) (pos 0) w ns a g → Between bs ns (6 * p) new
    between_pass {new} e = record {
      count = ap length e ∙ length_answer (bs a) (pos 0) w ns a g ∙ B.count;
      constants = λ i l. border_le (bs i) (B.constants i l) (omega arith);
      sizes = subst (Sized (6 * p)) (sym e) (pass_sized (bs a) S ns p a g (B.constants a h) B.sizes);
    }

-- ---- the passes of an accepted call, by the grids that they leave: each can be weighed
differs : ThreeSmall difference
differs = record { three = refl; small = refl }

module _ {bs : ℕ → Border ℤ} {ns : List ℕ} {axis : ℕ} {cells : List ℤ} {out second : ℕ} (A : Accepted bs ns axis cells out second) where
  pub weighs_first : {held : List ℤ} → length held ≡ cell_count ns → WeighNeeds (bs axis) ns axis (pos 0) difference cells held
  weighs_first e = weighs_pass A differs (between_input A) A.along (omega arith) e

  module _ {smooth : List ℤ} (S : ThreeSmall smooth) {g : List ℤ} (p : g ≡ correlate1d_z (bs axis) (pos 0) difference ns axis cells) {f : ℕ} (h : f < length ns) where
    between_first : Between bs ns (6 * 2147483647) g
    between_first = between_pass A differs (between_input A) A.along p

    pub weighs_second : {held : List ℤ} → length held ≡ cell_count ns → WeighNeeds (bs f) ns f (pos 0) smooth g held
    weighs_second e = weighs_pass A S between_first h (omega arith) e

    pub weighs_third : {y : List ℤ} → y ≡ correlate1d_z (bs f) (pos 0) smooth ns f g → {l : ℕ} → l < length ns → {held : List ℤ} → length held ≡ cell_count ns
        → WeighNeeds (bs l) ns l (pos 0) smooth y held
    weighs_third q k e = weighs_pass A S (between_pass A S between_first h q) k (omega arith) e

-- ---- the axes beside the axis of the difference
pub first_in_lem : (axis : ℕ) {f n : ℕ} → f ≡ first_other axis → 1 < n → f < n
first_in_lem axis {f} {n} e h = subst (λ x. x < n) (sym e) (cond_ind (eqb axis 0) 1 0 (λ x. x < n) (λ t. h) (λ t. omega arith))

pub last_in_lem : (axis : ℕ) {l n : ℕ} → l ≡ last_other axis → 2 < n → l < n
last_in_lem axis {l} {n} e h = subst (λ x. x < n) (sym e) (cond_ind (eqb axis 2) 1 2 (λ x. x < n) (λ t. omega arith) (λ t. h))

-- ---- one, two and three passes are the answer
module _ (smooth : List ℤ) (bs : ℕ → Border ℤ) (ns : List ℕ) (cells : List ℤ) where
  pass : ℕ → List ℤ → List ℤ
  pass a g = correlate1d_z (bs a) (pos 0) smooth ns a g

  start : ℕ → List ℤ
  start axis = correlate1d_z (bs axis) (pos 0) difference ns axis cells

  whole : (axis n : ℕ) → length ns ≡ n → gradient_to smooth bs ns axis cells n ≡ gradient smooth bs ns axis cells
  whole axis n e = ap (gradient_to smooth bs ns axis cells) (sym e)

  one : (axis : ℕ) → axis < 1 → start axis ≡ gradient_to smooth bs ns axis cells 1
  unfolding gradient_to start pass
  one zero h = refl
  one (suc k) h = absurd (omega arith)

  two : (axis : ℕ) → axis < 2 → pass (first_other axis) (start axis) ≡ gradient_to smooth bs ns axis cells 2
  unfolding gradient_to start pass
  two zero h = refl
  two (suc zero) h = refl
  two (suc (suc k)) h = absurd (omega arith)

  three : (axis : ℕ) → axis < 3 → pass (last_other axis) (pass (first_other axis) (start axis)) ≡ gradient_to smooth bs ns axis cells 3
  unfolding gradient_to start pass
  three zero h = refl
  three (suc zero) h = refl
  three (suc (suc zero)) h = refl
  three (suc (suc (suc k))) h = absurd (omega arith)

  module _ {axis : ℕ} (a : axis < length ns) {x : List ℤ} (p : x ≡ correlate1d_z (bs axis) (pos 0) difference ns axis cells) where
    pub one_pass : length ns ≡ 1 → x ≡ gradient smooth bs ns axis cells
    unfolding start
    one_pass n = p ∙ one axis (omega (arith, n, a)) ∙ whole axis 1 n

    module _ {y : List ℤ} {f : ℕ} (e : f ≡ first_other axis) (q : y ≡ correlate1d_z (bs f) (pos 0) smooth ns f x) where
      second_grid : y ≡ pass (first_other axis) (start axis)
      unfolding pass start
      second_grid = q ∙ (λ j. correlate1d_z (bs (e j)) (pos 0) smooth ns (e j) (p j))

      pub two_passes : length ns ≡ 2 → y ≡ gradient smooth bs ns axis cells
      two_passes n = second_grid ∙ two axis (omega (arith, n, a)) ∙ whole axis 2 n

      pub three_passes : {z : List ℤ} {l : ℕ} → length ns ≡ 3 → l ≡ last_other axis → z ≡ correlate1d_z (bs l) (pos 0) smooth ns l y → z ≡ gradient smooth bs ns axis cells
      unfolding pass
      three_passes n d r = r ∙ (λ j. correlate1d_z (bs (d j)) (pos 0) smooth ns (d j) (second_grid j)) ∙ three axis (omega (arith, n, a)) ∙ whole axis 3 n
