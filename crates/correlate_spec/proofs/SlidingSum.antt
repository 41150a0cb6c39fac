-- The running sum of a window, on the machine: one cell enters, one leaves, and every sum on the way fits 64 bits, since a window has at most 65 cells.
-- Assumes nothing.
use Prim.Native.Nat.{ℕ, ◌+◌, ◌^◌, ◌≤◌, ◌<◌}
use mathlib.Core.Path.{◌≡◌, sym, ap, subst, ◌∙◌}
use mathlib.Core.Bool.{false}
use mathlib.Core.List.{List}
use native.Mathlib.Omega.{arith}
use lib.IntN.{ℤ, pos, neg_ℤ, ◌+ℤ◌, ◌-ℤ◌}
use lib.ListN.{length, get_or}
use mir.Syntax.{w64}
use mir.Val.{SFits}
use Rattle.numbers.specs.Lists.{any_of}
use Rattle.numbers.specs.Ranges.{outside_z}
use Rattle.numbers.specs.Windows.{window_of}
use Rattle.numbers.proofs.Size.{Size, Sized, size_add, size_neg, member_sized, tested_sized, fits_size}
use Rattle.numbers.proofs.Window.{length-window_le, any_window}
use Rattle.correlate_spec.specs.Sizes.{SumNeeds}
use Rattle.correlate_spec.specs.WindowSum.{window_sum}
use Rattle.correlate_spec.proofs.Sliding.{sum_enters, sum_leaves, sum_size}
use Rattle.correlate_spec.proofs.Computed.{read, Computed, computed_level, computed_read, computed}

module _ (s : List ℤ) (cells : any_of (outside_z (neg_ℤ (pos (2 ^ 38))) (pos (2 ^ 38))) s ≡ false) where
  sized : Sized (2 ^ 38) s
  sized = tested_sized (2 ^ 38) s cells

  cell_size : (k : ℕ) → Size (get_or s k (pos 0)) (2 ^ 38)
  cell_size k = member_sized (2 ^ 38) s sized k

  cell : (k : ℕ) → Computed (get_or s k (pos 0)) (get_or s k (pos 0))
  cell k = computed_level (cell_size k) (omega arith)

  -- a window of at most 65 cells
  pub window_summable : (i k : ℕ) → k ≤ 65 → SumNeeds (window_of s i k)
  window_summable i k h = record { few = omega (arith, length-window_le s i k); cells = any_window s i k _ cells }

  -- a sum as it is held, and the cell at place m: whichever it is, their sum fits
  module _ {t : ℤ} (k i : ℕ) (few : k ≤ 64) (held : t ≡ window_sum s k i) where
    pub sum_computed : (m : ℕ) → Computed (t +ℤ read (get_or s m (pos 0))) (window_sum s k i +ℤ get_or s m (pos 0))
    sum_computed m = record { fits = subst (SFits w64) (sym is) (fits_size (size_add (sum_size (2 ^ 38) s sized k i) (cell_size m)) (omega arith)); is = is }
      where
        is : t +ℤ read (get_or s m (pos 0)) ≡ window_sum s k i +ℤ get_or s m (pos 0)
        is = (λ j. held j +ℤ computed_read (cell m) j)

    -- the cell that enters
    pub total-read : i + k < length s → read (t +ℤ read (get_or s (i + k) (pos 0))) ≡ window_sum s (k + 1) i
    total-read h = computed_read (sum_computed (i + k)) ∙ sum_enters s k i h

    -- the cell that leaves: whichever it is, the difference fits
    pub left_computed : (m n : ℕ)
        → Computed (read (t +ℤ read (get_or s m (pos 0))) -ℤ read (get_or s n (pos 0))) (window_sum s k i +ℤ get_or s m (pos 0) -ℤ get_or s n (pos 0))
    left_computed m n = computed ◌-ℤ◌ (sum_computed m) (cell n) (size_add (size_add (sum_size (2 ^ 38) s sized k i) (cell_size m)) (size_neg (cell_size n))) (omega arith)

    pub left-read : i + k < length s → read (read (t +ℤ read (get_or s (i + k) (pos 0))) -ℤ read (get_or s i (pos 0))) ≡ window_sum s k (i + 1)
    left-read h = computed_read (left_computed (i + k) i) ∙ ap (λ (x : ℤ). x -ℤ get_or s i (pos 0)) (sum_enters s k i h) ∙ sum_leaves s k i h
