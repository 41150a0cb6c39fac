-- An accepted call of correlate1d or convolve1d, over any element: what each condition says, and how the weights and the origin are placed.
-- Assumes nothing.
use mathlib.Core.Path.{◌≡◌, ◌∙◌}
use mathlib.Core.Bool.{Bool, false}
use mathlib.Core.List.{List, [], ◌∷◌, ◌++◌}
use Prim.Native.Nat.{ℕ, ◌≤◌, ◌<◌}
use native.Mathlib.Omega.{arith}
use borrow.Author.Tests.{ltb-true, ltb-false, not-false}
use lib.Dec.{T, ltb}
use lib.Ieee.{Float}
use lib.IntN.{ℤ}
use lib.ListN.{length}
use Rattle.numbers.specs.Lists.{any_of, Every}
use Rattle.numbers.specs.Refusal.{Judged, refusal_of}
use Rattle.numbers.proofs.Tests.{or_false}
use Rattle.array_spec.specs.Conditions.{bad_level, bad_float, grid_judged_by}
use Rattle.array_spec.specs.Grid.{length_of}
use Rattle.array_spec.proofs.Judged.{PassedGrid, lent_same, grid_passed}
use Rattle.border.specs.Border.{Border}
use Rattle.border.specs.Modes.{bad_constant_by}
use Rattle.window_spec.specs.Origin.{bad_origin}
use Rattle.window_spec.specs.Window.{bad_window_origin, bad_reach, applied_origin}
use Rattle.window_spec.proofs.Reach.{more-cells}
use Rattle.correlate_judge_spec.specs.Judge.{bad_weight, weights_judged, place_judged, bad_correlate_sums, correlate_judged, correlate_judged_f}
use Rattle.window_spec.proofs.Changed.{applied_range}
use Rattle.correlate1d.specs.WeighNeeds.{PlaceNeeds}

pub record Passed {A : Type 0} (bad heavy : A → Bool) (convolution : Bool) (b : Border A) (o : ℤ) (w : List A) (ns : List ℕ) (a : ℕ) (cells : List A) (out : ℕ) : Type 0 where
  pub grid : PassedGrid bad ns cells (out ∷ [])
  pub some : 0 < length w
  pub few : length w ≤ 65
  pub weights : any_of heavy w ≡ false
  pub origin : bad_window_origin (length w) o ≡ false
  pub axis : a < length ns
  pub level : bad_constant_by bad b ≡ false
  pub reach : bad_reach b (length w) (applied_origin convolution (length w) o) (length_of ns a) ≡ false

-- whatever is judged after condition 11
module _ {A : Type 0} (bad heavy : A → Bool) (convolution : Bool) (b : Border A) (o : ℤ) (w : List A) (ns : List ℕ) (a : ℕ) (cells : List A) (out : ℕ) where
  passed_by : (ks : Judged) → Every (λ j. T (ltb 0 j.1)) ks
      → refusal_of (grid_judged_by bad ns cells (out ∷ []) ++ weights_judged heavy w ++ place_judged bad convolution b o (length w) ns a ++ ks) ≡ 0 → Passed bad heavy convolution b o w ns a cells out
  passed_by ks p z =
      let J = grid_passed bad ns cells (out ∷ []) (weights_judged heavy w ++ place_judged bad convolution b o (length w) ns a ++ ks) (tt, (tt, (tt, (tt, (tt, (tt, p)))))) z in
      let s = or_false (ltb (length w) 1) (ltb 65 (length w)) J.1.0 in record {
        grid = J.0;
        some = omega (arith, ltb-false (length w) 1 s.0);
        few = ltb-false 65 (length w) s.1;
        weights = J.1.1.0;
        origin = J.1.1.1.0;
        axis = ltb-true a (length ns) (not-false (ltb a (length ns)) J.1.1.1.1.0);
        level = J.1.1.1.1.1.0;
        reach = J.1.1.1.1.1.1.0;
      }

pub passed : (convolution : Bool) (b : Border ℤ) (o : ℤ) (w : List ℤ) (ns : List ℕ) (a : ℕ) (cells : List ℤ) (out : ℕ) → refusal_of (correlate_judged convolution b o w ns a cells out) ≡ 0
    → Passed bad_level bad_weight convolution b o w ns a cells out
passed convolution b o w ns a cells out z = passed_by bad_level bad_weight convolution b o w ns a cells out ((bad_correlate_sums convolution b o w ns a cells, 12) ∷ []) (tt, tt) z

pub passed_float : (convolution : Bool) (b : Border Float) (o : ℤ) (w : List Float) (ns : List ℕ) (a : ℕ) (cells : List Float) (out : ℕ) → refusal_of (correlate_judged_f convolution b o w ns a cells out)
    ≡ 0
    → Passed bad_float bad_float convolution b o w ns a cells out
passed_float convolution b o w ns a cells out z = passed_by bad_float bad_float convolution b o w ns a cells out [] tt z

-- ---- two weights or more, in either direction
module _ {A : Type 0} {bad heavy : A → Bool} {convolution : Bool} {b : Border A} {o : ℤ} {w : List A} {ns : List ℕ} {a : ℕ} {cells : List A} (out : List A)
    (P : Passed bad heavy convolution b o w ns a cells (length out)) (more : length w ≡ 1 → ⊥) where
  pub placed_accepted : PlaceNeeds b ns a (applied_origin convolution (length w) o) w cells out
  placed_accepted = record {
    shape = P.grid.shape;
    axis = P.axis;
    count = P.grid.count;
    same = lent_same P.grid;
    more = omega (arith, P.some, more);
    few = P.few;
    origin = applied_range convolution (length w) o ∙ more-cells (length w) o more (bad_origin (length w) o) ∙ P.origin;
    reach = P.reach;
  }
