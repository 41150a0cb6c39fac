-- What a line that is averaged gives the loop of the running sum. Assumes nothing.
use Prim.Native.Nat.{ℕ, ◌+◌, ◌-◌, ◌^◌, ◌<◌}
use mathlib.Core.Path.{◌≡◌, ap, ◌∙◌}
use mathlib.Core.Bool.{false}
use mathlib.Core.List.{List}
use native.Mathlib.Omega.{arith}
use lib.IntN.{ℤ, pos, neg_ℤ, ◌+ℤ◌}
use lib.ListN.{get_or}
use Rattle.numbers.specs.Lists.{any_of}
use Rattle.numbers.specs.Ranges.{outside_z}
use Rattle.numbers.proofs.Any.{none_any, every_imp}
use Rattle.numbers.proofs.Size.{Size, size_le, inside_sized}
use Rattle.array_spec.proofs.Judged.{levels_sized}
use Rattle.correlate_spec.specs.WindowSum.{window_sum}
use Rattle.correlate_spec.proofs.Computed.{read}
use Rattle.correlate_spec.proofs.SlidingSum.{total-read}
use Rattle.uniform_spec.specs.Mean.{cut, MeanLineNeeds}

module _ {s : List ℤ} {size n : ℕ} (A : MeanLineNeeds s size n) where
  -- a level is as large as a cell of a running sum may be
  pub cells : any_of (outside_z (neg_ℤ (pos (2 ^ 38))) (pos (2 ^ 38))) s ≡ false
  cells = none_any _ s (every_imp (λ x. Size x 2147483647) _ s (λ x h. inside_sized (2 ^ 38) x (size_le h (omega arith))) (levels_sized s A.levels))

  pub mean_read : {t : ℤ} (i : ℕ) → i < n → t ≡ window_sum s (size - 1) i → cut (read (t +ℤ read (get_or s (i + (size - 1)) (pos 0)))) size ≡ cut (window_sum s size i) size
  mean_read i h held = ap (λ (x : ℤ). cut x size) (total-read s cells (size - 1) i (omega (arith, A.few)) held (omega (arith, A.some, A.long)) ∙ ap (λ k. window_sum s k i) whole)
    where
      whole : size - 1 + 1 ≡ size
      whole = omega (arith, A.some)
