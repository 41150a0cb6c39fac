-- The sum of a window that moves along a line: one cell enters, one leaves; the sum by places, and the size of a sum of k cells.
-- Assumes nothing.
use Prim.Native.Nat.{ℕ, ◌+◌, ◌*◌, ◌≤◌, ◌<◌}
use mathlib.Core.Path.{◌≡◌, refl, sym, ap, ◌∙◌}
use mathlib.Core.Bool.{Bool, true, false, cond}
use mathlib.Core.List.{List, [], ◌∷◌}
use native.Mathlib.Nat.{mul-le-mul, le_refl}
use lib.IntN.{ℤ, pos, ◌+ℤ◌, ◌-ℤ◌, +ℤ_comm, +ℤ_idr, +ℤ-neg_ℤ_cancel}
use lib.Dec.{leb}
use lib.ListN.{length, get_or, take, drop}
use Rattle.numbers.specs.Sums.{sum_of}
use Rattle.numbers.specs.Windows.{window_of}
use Rattle.numbers.proofs.IntSum.{sum-append}
use Rattle.numbers.proofs.Size.{Size, Sized, size_le, size_sum}
use Rattle.numbers.proofs.Window.{length-window, length-window_le, get_d_window, every_window, window_enters, window_leaves}
use Rattle.correlate_spec.specs.Weighed.{summed}
use Rattle.correlate_spec.specs.WindowSum.{window_sum}
use Rattle.correlate_spec.proofs.Folded.{start_moved}
use Rattle.correlate_spec.proofs.Summed.{summed-front, summed_agree}

-- ---- a window of no cells, and one that moves on by one cell
pub sum-none : (s : List ℤ) (i : ℕ) → window_sum s 0 i ≡ pos 0
unfolding window_of
sum-none s i = go (leb (i + 0) (length s))
  where
    go : (t : Bool) → sum_of (cond t (take 0 (drop i s)) []) ≡ pos 0
    go true = refl
    go false = refl

module _ (s : List ℤ) (k i : ℕ) (h : i + k < length s) where
  pub sum_enters : window_sum s k i +ℤ get_or s (i + k) (pos 0) ≡ window_sum s (k + 1) i
  sum_enters =
      sym (ap sum_of (window_enters s i k (pos 0) h) ∙ sum-append (window_of s i k) (get_or s (i + k) (pos 0) ∷ []) ∙ ap (λ (x : ℤ). window_sum s k i +ℤ x) (+ℤ_idr (get_or s (i + k) (pos 0))))

  pub sum_leaves : window_sum s (k + 1) i -ℤ get_or s i (pos 0) ≡ window_sum s k (i + 1)
  sum_leaves =
      ap (λ (x : ℤ). x -ℤ get_or s i (pos 0)) (ap sum_of (window_leaves s i k (pos 0) h) ∙ +ℤ_comm (get_or s i (pos 0)) (window_sum s k (i + 1)))
      ∙ +ℤ-neg_ℤ_cancel (window_sum s k (i + 1)) (get_or s i (pos 0))

-- ---- the sum of a list, and of a window inside its line, by places
pub sum-places : (l : List ℤ) → sum_of l ≡ summed ◌+ℤ◌ (pos 0) (λ j. get_or l j (pos 0)) (length l)
unfolding summed
sum-places [] = refl
sum-places (x ∷ xs) =
    +ℤ_comm x (sum_of xs) ∙ ap (λ (z : ℤ). z +ℤ x) (sum-places xs)
    ∙ sym (summed-front ◌+ℤ◌ (pos 0) (λ j. get_or (x ∷ xs) j (pos 0)) (length xs) ∙ start_moved (pos 0) x (λ j. get_or xs j (pos 0)) (length xs))

pub window-places : (s : List ℤ) (k i : ℕ) → i + k ≤ length s → window_sum s k i ≡ summed ◌+ℤ◌ (pos 0) (λ j. get_or s (i + j) (pos 0)) k
window-places s k i h =
    sum-places (window_of s i k) ∙ ap (summed ◌+ℤ◌ (pos 0) (λ j. get_or (window_of s i k) j (pos 0))) (length-window s i k h)
    ∙ summed_agree ◌+ℤ◌ (pos 0) (λ j. get_or (window_of s i k) j (pos 0)) (λ j. get_or s (i + j) (pos 0)) k (λ j b. get_d_window s i k j (pos 0) h b)

-- ---- the size of a sum of k cells
pub sum_size : (p : ℕ) (s : List ℤ) → Sized p s → (k i : ℕ) → Size (window_sum s k i) (k * p)
sum_size p s h k i = size_le (size_sum p (window_of s i k) (every_window s i k (λ x. Size x p) h)) (mul-le-mul (length-window_le s i k) (le_refl p))
