-- The lifted sum of a line, level by level: where no level is far it stays below 2^64, and less what was added it is the sum of the levels.
-- Assumes nothing.
use Rattle.std.proofs.Common.{◌≡◌, ℕ, ◌+◌, ◌*◌, ◌%◌, ◌^◌, ◌<◌, ◌≤◌, false, List, length, get_or, drop, ℤ, pos, ◌+ℤ◌, ◌-ℤ◌, sym, ap, ◌∙◌, arith, w64, SFits, to_z, of_z, ltb-false}
use mathlib.Core.Path.{subst⁻¹}
use lib.IntN.{+ℤ_assoc, +ℤ-neg_ℤ_cancel}
use mir.ValLaws.{to_z-of_z, to_z_pos}
use Rattle.numbers.specs.Lists.{any_of}
use Rattle.numbers.specs.Sums.{sum_of}
use Rattle.numbers.proofs.Any.{any_none, every_at}
use Rattle.numbers.proofs.IntSum.{+ℤ-right-comm}
use Rattle.numbers.proofs.Size.{size_sum, fits_size}
use Rattle.array_levels.specs.Near.{is_far}
use Rattle.array_levels.proofs.Raising.{Lift, none-outside}
use Rattle.statistics_spec.specs.Statistics.{unserved, answered}
use Rattle.statistics_spec.proofs.Running.{sum_more}
use Rattle.statistics_spec.proofs.Served.{served_sized, unserved_short, answered_served}
use Rattle.statistics_mean.specs.NearSum.{NearSum}

-- sum is that of the first i levels, each lifted
pub record Summed (l : List ℤ) (i sum : ℕ) : Type 0 where
  pub is : pos sum +ℤ sum_of (drop i l) ≡ sum_of l +ℤ pos (i * 2 ^ 30)
  pub small : sum ≤ i * 2147483647

module _ {l : List ℤ} {i sum : ℕ} (S : Summed l i sum) where
  pub summed-more : {m sum' : ℕ} → i < length l → length l ≤ 1024 → any_of is_far l ≡ false → Lift (get_or l i (pos 0)) m → sum' ≡ (sum + m) % 2 ^ 64 → Summed l (i + 1) sum'
  summed-more {m} {sum'} h b f L q = record {
    is =
        ap (λ n. pos n +ℤ rest) more
        ∙ ap (λ x. pos sum +ℤ x +ℤ rest) (L.near low)
        ∙ ap (λ x. x +ℤ rest) (sym (+ℤ_assoc (pos sum) z (pos (2 ^ 30))))
        ∙ +ℤ-right-comm (pos sum +ℤ z) (pos (2 ^ 30)) rest
        ∙ ap (λ x. x +ℤ pos (2 ^ 30)) (sum_more l i (pos sum) (sum_of l +ℤ pos (i * 2 ^ 30)) S.is (pos 0) h)
        ∙ +ℤ_assoc (sum_of l) (pos (i * 2 ^ 30)) (pos (2 ^ 30))
        ∙ ap (λ n. sum_of l +ℤ pos n) next;
    small = omega (arith, more, low, S.small);
  }
    where
      z : ℤ
      z = get_or l i (pos 0)

      rest : ℤ
      rest = sum_of (drop (i + 1) l)

      low : m ≤ 2147483647
      low = ltb-false 2147483647 m (L.far ∙ every_at (λ x. is_far x ≡ false) l (pos 0) (any_none is_far l f) i h)

      more : sum' ≡ sum + m
      more = omega (arith, low, S.small)

      next : i * 2 ^ 30 + 2 ^ 30 ≡ (i + 1) * 2 ^ 30
      next = omega arith

-- ---- on the machine: what was added is taken away
module _ (l : List ℤ) {sum : ℕ} (N : NearSum l sum) (b : length l ≤ 1024) where
  served : unserved l ≡ false
  served = sym (unserved_short l b (none-outside l N.near))

  lowered_is : to_z w64 sum -ℤ to_z w64 (length l * 1073741824) ≡ sum_of l
  lowered_is = rw (to_z_pos w64 sum (omega (arith, N.small)), to_z_pos w64 (length l * 1073741824) (omega arith))
      (ap (λ x. x -ℤ pos (length l * 2 ^ 30)) N.is ∙ +ℤ-neg_ℤ_cancel (sum_of l) (pos (length l * 2 ^ 30)))

  pub lowered_fits : SFits w64 (to_z w64 sum -ℤ to_z w64 (length l * 1073741824))
  lowered_fits = subst⁻¹ (SFits w64) lowered_is (fits_size (size_sum 2147483647 l (served_sized l served)) (omega arith))

  pub lowered-total : to_z w64 (of_z w64 (to_z w64 sum -ℤ to_z w64 (length l * 1073741824))) ≡ answered sum_of l
  lowered-total = to_z-of_z w64 _ lowered_fits ∙ lowered_is ∙ sym (answered_served sum_of l served)
