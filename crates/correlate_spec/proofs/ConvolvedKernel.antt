-- A convolution with a grid kernel of equal sides is the correlation with the kernel reversed along every axis, so its weights from the last to the first, and the changed origin.
-- Assumes nothing.
use Prim.Native.Nat.{ℕ, zero, suc, ◌+◌, ◌-◌, ◌<◌}
use mathlib.Core.Path.{◌≡◌, refl, sym, ap, subst, ◌∙◌}
use mathlib.Core.Bool.{false}
use mathlib.Core.List.{List, reverse}
use native.Mathlib.Omega.{arith}
use lib.IntN.{ℤ, pos, neg_ℤ, ◌+ℤ◌, ◌-ℤ◌, ◌*ℤ◌}
use lib.ListN.{length, get_or, replicate, length-reverse, length-replicate, get_or-replicate}
use Rattle.numbers.specs.Lists.{tabulate}
use Rattle.numbers.proofs.Index.{get_d_reverse}
use Rattle.numbers.proofs.IntSum.{+ℤ-right-comm}
use Rattle.array_spec.specs.Grid.{cell_count, length_of, coordinate}
use Rattle.array_spec.proofs.Places.{Positive, coordinate_within}
use Rattle.border.specs.Border.{Border, extended_grid}
use Rattle.window_spec.specs.Origin.{bad_origin}
use Rattle.window_spec.specs.Window.{kernel_left, changed_origin}
use Rattle.correlate_spec.specs.Weighed.{summed}
use Rattle.correlate_spec.specs.Convolved.{meets}
use Rattle.correlate_spec.specs.Kernel.{sides_of, side_of_lem, window_at, kernel_sum, kernel_answer, convolved_sum, correlate_z, convolve_z}
use Rattle.correlate_spec.proofs.Summed.{summed_agree}
use Rattle.correlate_spec.proofs.Ordered.{summed-turned}
use Rattle.correlate_spec.proofs.Meets.{met_place}
use Rattle.correlate_spec.proofs.Turned.{coordinate-turned, extended_agrees}

positive_sides : (n side : ℕ) → 0 < side → Positive (replicate n side)
positive_sides zero side h = tt
positive_sides (suc n) side h = (h, positive_sides n side h)

-- the kernel's shape is that of its first side, which is some, and it has as many weights as cells
module _ (b : Border ℤ) (o : ℤ) (sides : List ℕ) (w : List ℤ) (ns : List ℕ) (cells : List ℤ) (same : sides ≡ sides_of ns (side_of_lem sides)) (some : 0 < side_of_lem sides)
    (many : length w ≡ cell_count sides) (accepted : bad_origin (side_of_lem sides) o ≡ false) where
  abbrev side : ℕ
  side = side_of_lem sides

  abbrev left : ℕ
  left = kernel_left side (changed_origin side o)

  axes : length sides ≡ length ns
  axes = ap length same ∙ length-replicate (length ns) side

  full : Positive sides
  full = subst Positive (sym same) (positive_sides (length ns) side some)

  side_of : (a : ℕ) → a < length ns → length_of sides a ≡ side
  side_of a l = ap (λ (s : List ℕ). length_of s a) same ∙ get_or-replicate (length ns) a side 1 l

  -- kernel cell k counted from the end, and the window's cell k
  coordinates_met : (p : ℕ → ℕ) (k : ℕ) → k < length w → (a : ℕ) → a < length ns → meets side o (p a) (coordinate sides (length w - 1 - k) a) ≡ window_at left sides p k a
  coordinates_met p k h a l =
      let c = coordinate sides k a in
      let within : c < side = subst (λ n. c < n) (side_of a l) (coordinate_within sides k full (omega (arith, many)) a (omega (arith, axes))) in
      ap (meets side o (p a)) (ap (λ n. coordinate sides (n - 1 - k) a) many ∙ coordinate-turned sides k full (omega (arith, many)) a (omega (arith, axes)) ∙ ap (λ n. n - 1 - c) (side_of a l))
      ∙ sym (met_place side o accepted (p a) c within)
      ∙ +ℤ-right-comm (pos (p a)) (pos c) (neg_ℤ (pos left))

  sums_met : (p : ℕ → ℕ) → convolved_sum b o sides w ns cells p ≡ kernel_sum b left sides (reverse w) ns cells p
  unfolding convolved_sum kernel_sum
  sums_met p =
      sym (summed-turned term (length w))
      ∙ summed_agree ◌+ℤ◌ (pos 0) (λ k. term (length w - 1 - k)) turned (length w)
      (λ k h t. extended_agrees (pos 0) b ns cells _ (window_at left sides p k) (λ a l. coordinates_met p k h a l) t *ℤ sym (get_d_reverse w k (pos 0) h) t)
      ∙ ap (summed ◌+ℤ◌ (pos 0) turned) (sym (length-reverse w))
    where
      term : ℕ → ℤ
      term k = extended_grid (pos 0) b ns cells (λ a. meets side o (p a) (coordinate sides k a)) *ℤ get_or w k (pos 0)

      turned : ℕ → ℤ
      turned k = extended_grid (pos 0) b ns cells (window_at left sides p k) *ℤ get_or (reverse w) k (pos 0)

  pub convolved_kernel : convolve_z b o sides w ns cells ≡ correlate_z b (changed_origin side o) sides (reverse w) ns cells
  unfolding kernel_answer
  convolved_kernel t = tabulate (λ k. sums_met (coordinate ns k) t) 0 (cell_count ns)
