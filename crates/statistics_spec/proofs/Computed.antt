-- Mean and median as they are computed: of no level, by the quotient of the sum, and by the levels of one rank or two.
-- Assumes nothing.
use mathlib.Core.Path.{◌≡◌, refl, sym, ap, ◌∙◌}
use mathlib.Core.Bool.{Bool, true, false, cond}
use mathlib.Core.List.{List, [], ◌∷◌}
use Prim.Native.Nat.{ℕ, ◌+◌, ◌-◌, ◌/◌, ◌%◌}
use native.Mathlib.Nat.{suc-ne-zero, zero-div}
use native.Mathlib.Numerals.{add-one}
use borrow.Author.Tests.{eq-eqb, ne_eqb}
use lib.Dec.{eqb}
use lib.IntN.{ℤ, pos, ◌+ℤ◌}
use lib.ListN.{length}
use lib.Signed.{quot_z}
use Rattle.numbers.specs.Sums.{sum_of}
use Rattle.numbers.proofs.Tests.{cond_yes, cond_no}
use Rattle.statistics_spec.specs.Sorting.{sorted}
use Rattle.statistics_spec.specs.Statistics.{mean_of, ranked, median_of, unserved, answered}

-- no level
pub mean_none : (l : List ℤ) → length l ≡ 0 → pos 0 ≡ answered mean_of l
unfolding mean_of unserved
mean_none [] e = refl
mean_none (x ∷ xs) e = absurd (suc-ne-zero _ e)

pub median_none : (l : List ℤ) → length l ≡ 0 → pos 0 ≡ answered median_of l
unfolding sorted median_of unserved
median_none [] e = refl
median_none (x ∷ xs) e = absurd (suc-ne-zero _ e)

-- some levels
module _ (l : List ℤ) where
  pub mean_quotient : quot_z (sum_of l) (pos (length l)) ≡ mean_of l
  unfolding mean_of
  mean_quotient = refl

  -- of the sum that is answered: the mean that is answered
  pub mean_answered : quot_z (answered sum_of l) (pos (length l)) ≡ answered mean_of l
  unfolding mean_of
  mean_answered = go (unserved l)
    where
      go : (t : Bool) → quot_z (cond t (pos 0) (sum_of l)) (pos (length l)) ≡ cond t (pos 0) (mean_of l)
      go true = ap pos (zero-div (length l))
      go false = refl

  pub median_odd : length l % 2 ≡ 1 → ranked l ((length l - 1) / 2) ≡ median_of l
  unfolding median_of
  median_odd e = sym (cond_yes (eqb (length l % 2) 1) _ _ (eq-eqb (length l % 2) 1 e))

  pub median_even : (length l % 2 ≡ 1 → ⊥) → quot_z (ranked l ((length l - 1) / 2) +ℤ ranked l ((length l - 1) / 2 + 1)) (pos 2) ≡ median_of l
  unfolding median_of
  median_even e =
      ap (λ (n : ℕ). quot_z (ranked l ((length l - 1) / 2) +ℤ ranked l n) (pos 2)) (add-one ((length l - 1) / 2))
      ∙ sym (cond_no (eqb (length l % 2) 1) _ _ (ne_eqb (length l % 2) 1 e))
