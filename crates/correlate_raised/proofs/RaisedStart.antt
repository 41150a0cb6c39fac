-- One turn of the loop that sets a row to where its sums start, on the machine: the sum of the window, times by, is taken from the base; each step fits 64 bits.
-- Assumes nothing.
use Prim.Native.Nat.{ℕ, ◌+◌, ◌-◌, ◌*◌, ◌^◌, ◌≤◌, ◌<◌}
use mathlib.Core.Path.{◌≡◌, sym, ap, subst, ◌∙◌}
use mathlib.Core.List.{List}
use native.Mathlib.Omega.{arith}
use lib.IntN.{ℤ, pos, ◌+ℤ◌, ◌-ℤ◌, ◌*ℤ◌, +ℤ_idr, *ℤ-zero}
use lib.ListN.{length, get_or, replicate}
use Rattle.numbers.specs.Lists.{tabulate, Every}
use Rattle.numbers.proofs.Size.{Size, Sized, size_add, size_neg, size_mul, size_le, member_sized, tested_sized}
use Rattle.numbers.proofs.Tabulate.{tabulate-replicate, tabulate_agree}
use Rattle.correlate_spec.specs.WindowSum.{window_sum}
use Rattle.correlate_spec.proofs.Sliding.{sum_enters, sum_size}
use Rattle.correlate_spec.specs.Sizes.{LineSumNeeds}
use Rattle.correlate_raised_terms.specs.Narrow.{Raised, Narrow, raise_of}
use Rattle.correlate_raised.specs.Raised.{raised_base, raised_start, LiftNeeds, RaiseNeeds}
use Rattle.correlate_spec.proofs.Computed.{read, Computed, size_pos, computed_level, computed_read, computed}
use Rattle.correlate_raised.proofs.RaisedBase.{base_small}
use Rattle.correlate_raised_terms.proofs.RaisedLists.{raise_low, raise_raised}
use Rattle.correlate_spec.proofs.Terms.{weighable_kept}
use Rattle.correlate_spec.proofs.SlidingSum.{sum_computed}

-- the weights raised by as much as they ask for
pub raisable : {by n : ℕ} {w s : List ℤ} → LineSumNeeds w s n → Narrow s → by ≡ raise_of w → RaiseNeeds by w s n
raisable {w = w} W N e = record {
  weighable = W;
  low = subst (λ b. b ≤ 65535) (sym e) (raise_low w);
  weights = subst (λ b. Every (Raised b 131070) w) (sym e) (raise_raised w W.weights);
  cells = N;
}

-- of as many cells
pub raisable_kept : {by m n : ℕ} {w s : List ℤ} → m ≡ n → RaiseNeeds by w s n → RaiseNeeds by w s m
raisable_kept e A = record { weighable = weighable_kept e A.weighable; low = A.low; weights = A.weights; cells = A.cells }

module _ {by : ℕ} {w s : List ℤ} {n : ℕ} (A : RaiseNeeds by w s n) where
  pub liftable : LiftNeeds by w
  liftable = record { few = A.weighable.few; weights = A.weighable.weights; low = A.low }

  sized : Sized (2 ^ 38) s
  sized = tested_sized (2 ^ 38) s A.weighable.cells

  -- a window of all its cells, and one without the last and whichever cell instead, times by
  window_small : (i : ℕ) → Size (window_sum s (length w) i *ℤ pos by) (65 * (2 ^ 38 * 65535))
  window_small i = size_le (size_mul (size_le (sum_size (2 ^ 38) s sized (length w) i) most) (size_le (size_pos by) A.low)) (omega arith)
    where
      most : length w * 2 ^ 38 ≤ 65 * 2 ^ 38
      most = omega (arith, A.weighable.few)

  total_small : (i m : ℕ) → Size ((window_sum s (length w - 1) i +ℤ get_or s m (pos 0)) *ℤ pos by) (65 * (2 ^ 38 * 65535))
  total_small i m = size_le (size_mul (size_add (size_le (sum_size (2 ^ 38) s sized (length w - 1) i) most) (member_sized (2 ^ 38) s sized m)) (size_le (size_pos by) A.low)) (omega arith)
    where
      most : (length w - 1) * 2 ^ 38 ≤ 64 * 2 ^ 38
      most = omega (arith, A.weighable.few)

  pub start_small : (i : ℕ) → Size (raised_start by w s i) (130 * (2 ^ 38 * 65535))
  start_small i = size_le (size_add (base_small liftable) (size_neg (window_small i))) (omega arith)

  -- base and sum as they are held: the sum is that of the window without the cell at place m that enters
  module _ {base t : ℤ} (i : ℕ) (base-held : Computed base (raised_base by w)) (held : t ≡ window_sum s (length w - 1) i) where
    total : (m : ℕ) → Computed (t +ℤ read (get_or s m (pos 0))) (window_sum s (length w - 1) i +ℤ get_or s m (pos 0))
    total m = sum_computed s A.weighable.cells (length w - 1) i (omega (arith, A.weighable.few)) held m

    pub times_computed : (m : ℕ) → Computed (read (t +ℤ read (get_or s m (pos 0))) *ℤ read (pos by)) ((window_sum s (length w - 1) i +ℤ get_or s m (pos 0)) *ℤ pos by)
    times_computed m = computed ◌*ℤ◌ (total m) (computed_level (size_pos by) (omega (arith, A.low))) (total_small i m) (omega arith)

    pub lowered : (m : ℕ)
        → Computed (read base -ℤ read (read (t +ℤ read (get_or s m (pos 0))) *ℤ read (pos by))) (raised_base by w -ℤ (window_sum s (length w - 1) i +ℤ get_or s m (pos 0)) *ℤ pos by)
    lowered m = computed ◌-ℤ◌ base-held (times_computed m) (size_add (base_small liftable) (size_neg (total_small i m))) (omega arith)

    pub lowered-read : i < n → read (read base -ℤ read (read (t +ℤ read (get_or s (i + (length w - 1)) (pos 0))) *ℤ read (pos by))) ≡ raised_start by w s i
    lowered-read h = computed_read (lowered (i + (length w - 1))) ∙ ap (λ (x : ℤ). raised_base by w -ℤ x *ℤ pos by)
        (sum_enters s (length w - 1) i (omega (arith, A.weighable.some, A.weighable.long)) ∙ ap (λ k. window_sum s k i) whole)
      where
        whole : length w - 1 + 1 ≡ length w
        whole = omega (arith, A.weighable.some)

-- ---- where the weights are not raised, every sum starts from the base
pub flat_row : (by : ℕ) (w s : List ℤ) (n : ℕ) {base : ℤ} → base ≡ raised_base by w → by ≡ 0 → replicate n base ≡ tabulate (raised_start by w s) 0 n
flat_row by w s n {base} e z = sym (tabulate-replicate base 0 n) ∙ tabulate_agree (λ i. base) (raised_start by w s) 0 n (λ i b. flat (0 + i))
  where
    flat : (i : ℕ) → base ≡ raised_start by w s i
    flat i =
        e ∙ sym (+ℤ_idr (raised_base by w)) ∙ ap (λ (x : ℤ). raised_base by w -ℤ x) (sym (*ℤ-zero (window_sum s (length w) i)))
        ∙ ap (λ k. raised_base by w -ℤ window_sum s (length w) i *ℤ pos k) (sym z)
