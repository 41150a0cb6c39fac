-- A convolution is judged as the correlation with the reversed weights and the changed origin, condition by condition; where it is accepted the levels are that one's.
-- Assumes nothing.
use Prim.Native.Nat.{ℕ}
use mathlib.Core.Path.{◌≡◌, sym, ap, ◌∙◌}
use mathlib.Core.Bool.{Bool, true, false, not, ◌&&◌}
use mathlib.Core.List.{List, [], ◌∷◌, ◌++◌, reverse}
use lib.Dec.{T, ltb, eqb}
use lib.Ieee.{Float}
use lib.IntN.{ℤ}
use lib.ListN.{length, length-reverse, drop}
use Rattle.numbers.specs.Lists.{any_of, Every}
use Rattle.numbers.specs.Refusal.{Judged, refusal_of}
use Rattle.array_spec.specs.Conditions.{bad_level, bad_float, bad_axis, grid_judged, grid_judged_by}
use Rattle.array_spec.specs.Grid.{length_of}
use Rattle.array_spec.proofs.Judged.{grid_passed}
use Rattle.border.specs.Border.{Border}
use Rattle.border.specs.Modes.{bad_constant_by}
use Rattle.window_spec.specs.Origin.{bad_origin}
use Rattle.window_spec.specs.Window.{bad_window_origin, bad_reach, bad_kernel_reach, bad_size, changed_origin}
use Rattle.window_spec.proofs.Changed.{changed_range}
use Rattle.symmetry_spec.specs.Class.{class_f}
use Rattle.symmetry_spec.specs.declared.SymmetryState.TheVariants.{NonSymmetric}
use Rattle.direction.proofs.Directed.{directed_any}
use Rattle.correlate_spec.specs.Weighed.{whole_ops, float_ops}
use Rattle.correlate_spec.specs.Correlated.{correlate1d_z, correlate1d_f}
use Rattle.correlate_spec.specs.Convolved.{convolve1d_z, convolve1d_f}
use Rattle.correlate_spec.specs.Kernel.{side_of_lem, correlate_z, convolve_z}
use Rattle.correlate_spec.proofs.Convolved.{convolved_by_lem}
use Rattle.correlate_spec.proofs.ConvolvedKernel.{convolved_kernel}
use Rattle.correlate_judge_spec.specs.Judge.{bad_weight, weights_judged, place_judged, bad_correlate_sums, correlate_judged, correlate_judged_f}
use Rattle.correlate_judge_spec.specs.KernelJudge.{bad_kernel, bad_kernel_sums, kernel_judged}
use Rattle.correlate_judge_spec.specs.Convolution.{ConvolvesAs}
use Rattle.correlate_judge_spec.proofs.Equal.{kernel_equal}

-- ---- along an axis: the conditions on the weights and their place, over any element, whatever is judged after them
module _ {A : Type 0} (bad heavy : A → Bool) (b : Border A) (o : ℤ) (w : List A) (ns : List ℕ) (a : ℕ) (cells : List A) (out : ℕ) (ks : Judged) where
  abbrev changed : ℤ
  changed = changed_origin (length w) o

  -- the list of conditions, by the count of weights, the test of them and the test of the origin
  abbrev listed : ℕ → Bool → Bool → Judged
  listed n t u = grid_judged_by bad ns cells (out ∷ []) ++ (bad_size n, 5) ∷ (t, 6) ∷ (u, 7) ∷ (bad_axis ns a, 8) ∷ (bad_constant_by bad b, 9)
      ∷ (bad_reach b n changed (length_of ns a), 11) ∷ ks

  judged-turned : grid_judged_by bad ns cells (out ∷ []) ++ weights_judged heavy w ++ place_judged bad true b o (length w) ns a ++ ks
      ≡ grid_judged_by bad ns cells (out ∷ []) ++ weights_judged heavy (reverse w) ++ place_judged bad false b changed (length (reverse w)) ns a ++ ks
  judged-turned =
      ap (listed (length w) (any_of heavy w)) (ap (λ t. not (eqb (length w) 1) && t) (sym (changed_range (length w) o)))
      ∙ (λ i. listed (sym (length-reverse w) i) (sym (directed_any heavy true w) i) (bad_window_origin (sym (length-reverse w) i) changed))

  -- an accepted call has an accepted origin
  origin_passed : Every (λ j. T (ltb 0 j.1)) ks
      → refusal_of (grid_judged_by bad ns cells (out ∷ []) ++ weights_judged heavy w ++ place_judged bad true b o (length w) ns a ++ ks) ≡ 0 → bad_window_origin (length w) o ≡ false
  origin_passed p z = (grid_passed bad ns cells (out ∷ []) (weights_judged heavy w ++ place_judged bad true b o (length w) ns a ++ ks) (tt, (tt, (tt, (tt, (tt, (tt, p)))))) z).1.1.1.0

pub whole_convolves : (b : Border ℤ) (o : ℤ) (w : List ℤ) (ns : List ℕ) (a : ℕ) (cells : List ℤ) (out : ℕ) → let changed = changed_origin (length w) o in
    ConvolvesAs (correlate_judged true b o w ns a cells out) (convolve1d_z b o w ns a cells) (correlate_judged false b changed (reverse w) ns a cells out)
    (correlate1d_z b changed (reverse w) ns a cells)
whole_convolves b o w ns a cells out = let sums : Judged = (bad_correlate_sums true b o w ns a cells, 12) ∷ [] in record {
  number = ap refusal_of (judged-turned bad_level bad_weight b o w ns a cells out sums);
  levels = λ z. convolved_by_lem whole_ops NonSymmetric b o w (origin_passed bad_level bad_weight b o w ns a cells out sums (tt, tt) z) ns a cells;
}

pub float_convolves : (b : Border Float) (o : ℤ) (w : List Float) (ns : List ℕ) (a : ℕ) (cells : List Float) (out : ℕ) → let changed = changed_origin (length w) o in
    ConvolvesAs (correlate_judged_f true b o w ns a cells out) (convolve1d_f b o w ns a cells) (correlate_judged_f false b changed (reverse w) ns a cells out)
    (correlate1d_f b changed (reverse w) ns a cells)
float_convolves b o w ns a cells out = record {
  number = ap refusal_of (judged-turned bad_float bad_float b o w ns a cells out []);
  levels = λ z. convolved_by_lem float_ops (class_f (reverse w)) b o w (origin_passed bad_float bad_float b o w ns a cells out [] tt z) ns a cells;
}

-- ---- grid kernels
module _ (b : Border ℤ) (o : ℤ) (sides : List ℕ) (w : List ℤ) (ns : List ℕ) (cells : List ℤ) (out : ℕ) where
  abbrev side : ℕ
  side = side_of_lem sides

  abbrev kernel_listed : ℕ → Bool → Bool → Judged
  kernel_listed n t u = grid_judged ns cells (out ∷ []) ++ (bad_kernel ns sides n, 5) ∷ (t, 6) ∷ (u, 7) ∷ (bad_constant_by bad_level b, 9)
      ∷ (bad_kernel_reach b side (changed_origin side o) ns, 11) ∷ (bad_kernel_sums true b o sides w ns cells, 12) ∷ []

  kernel_turned : kernel_judged true b o sides w ns cells out ≡ kernel_judged false b (changed_origin side o) sides (reverse w) ns cells out
  kernel_turned =
      ap (kernel_listed (length w) (any_of bad_weight w)) (sym (changed_range side o))
      ∙ (λ i. kernel_listed (sym (length-reverse w) i) (sym (directed_any bad_weight true w) i) (bad_origin side (changed_origin side o)))

  kernel_levels_lem : refusal_of (kernel_judged true b o sides w ns cells out) ≡ 0 → convolve_z b o sides w ns cells ≡ correlate_z b (changed_origin side o) sides (reverse w) ns cells
  kernel_levels_lem z =
      let J = grid_passed bad_level ns cells (out ∷ []) (drop 3 (kernel_judged true b o sides w ns cells out)) (tt, (tt, (tt, (tt, (tt, (tt, tt)))))) z in
      let E = kernel_equal ns sides (length w) J.0.shape J.1.0 in
      convolved_kernel b o sides w ns cells E.same E.some E.many J.1.1.1.0

  pub kernel_convolves : ConvolvesAs (kernel_judged true b o sides w ns cells out) (convolve_z b o sides w ns cells) (kernel_judged false b (changed_origin side o) sides (reverse w) ns cells out)
      (correlate_z b (changed_origin side o) sides (reverse w) ns cells)
  kernel_convolves = record { number = ap refusal_of kernel_turned; levels = kernel_levels_lem }
