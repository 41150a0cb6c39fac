-- What a loop over a line keeps of the sum, and of the count of the members that are at most z.
-- Assumes nothing.
use mathlib.Core.Path.{◌≡◌, sym, ap, ◌∙◌}
use mathlib.Core.Bool.{Bool, true, false, cond}
use mathlib.Core.List.{List}
use Prim.Native.Nat.{ℕ, suc, ◌+◌, ◌≤◌, ◌<◌}
use native.Mathlib.Omega.{arith}
use lib.IntN.{ℤ, ◌+ℤ◌, +ℤ_idr, +ℤ_assoc}
use lib.ListN.{length, get_or, drop, drop_of_length-le}
use Rattle.numbers.specs.Sums.{sum_of}
use Rattle.numbers.proofs.Index.{drop-next}
use Rattle.numbers.proofs.Tests.{cond_yes, cond_no}
use Rattle.statistics_spec.specs.Sorting.{at_most}

-- ---- the sum: s and the sum of what is left
module _ (l : List ℤ) (i : ℕ) (s v : ℤ) (e : s +ℤ sum_of (drop i l) ≡ v) where
  pub sum_more : (d : ℤ) → i < length l → (s +ℤ get_or l i d) +ℤ sum_of (drop (i + 1) l) ≡ v
  sum_more d h = +ℤ_assoc s (get_or l i d) (sum_of (drop (i + 1) l)) ∙ sym (ap (λ r. s +ℤ sum_of r) (drop-next l i d h)) ∙ e

  pub sum-last : length l ≤ i → s ≡ v
  sum-last h = sym (ap (λ r. s +ℤ sum_of r) (drop_of_length-le l h) ∙ +ℤ_idr s) ∙ e

-- ---- the count: c and the count of what is left
module _ {A : Type 0} (le : A → A → Bool) (z : A) (l : List A) (i c v : ℕ) (e : c + at_most le z (drop i l) ≡ v) where
  count_left : (d : A) → i < length l → c + cond (le (get_or l i d) z) (suc (at_most le z (drop (i + 1) l))) (at_most le z (drop (i + 1) l)) ≡ v
  unfolding at_most
  count_left d h = sym (ap (λ r. c + at_most le z r) (drop-next l i d h)) ∙ e

  pub count_hit : (d : A) → i < length l → le (get_or l i d) z ≡ true → (c + 1) + at_most le z (drop (i + 1) l) ≡ v
  count_hit d h t = omega (arith, count_left d h, cond_yes _ (suc (at_most le z (drop (i + 1) l))) (at_most le z (drop (i + 1) l)) t)

  pub count_miss : (d : A) → i < length l → le (get_or l i d) z ≡ false → c + at_most le z (drop (i + 1) l) ≡ v
  count_miss d h t = omega (arith, count_left d h, cond_no _ (suc (at_most le z (drop (i + 1) l))) (at_most le z (drop (i + 1) l)) t)

  pub count_last : length l ≤ i → c ≡ v
  unfolding at_most
  count_last h = omega (arith, ap (λ r. c + at_most le z r) (drop_of_length-le l h))
