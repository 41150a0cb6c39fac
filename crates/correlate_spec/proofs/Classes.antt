-- Whole numbers: summed by pairs, as the class of the weights has it, is the plain sum.
-- Assumes nothing.
use Prim.Native.Nat.{ℕ, suc, ◌+◌, ◌-◌, ◌/◌, ◌<◌}
use mathlib.Core.Path.{◌≡◌, refl, sym, ap, ◌∙◌}
use mathlib.Core.List.{List}
use native.Mathlib.Omega.{arith}
use lib.IntN.{ℤ, pos, neg_ℤ, ◌+ℤ◌, ◌-ℤ◌, ◌*ℤ◌, *ℤ_comm}
use lib.ListN.{length, get_or}
use Rattle.numbers.proofs.IntProduct.{*ℤ-distrib-right, negℤ_*ℤ}
use Rattle.symmetry_spec.specs.Class.{class_z}
use Rattle.symmetry_spec.specs.declared.SymmetryState.{SymmetryState}
use Rattle.symmetry_spec.specs.declared.SymmetryState.TheVariants.{NonSymmetric, Symmetric, AntiSymmetric}
use Rattle.symmetry_spec.proofs.Mirrored.{Mirrored, whole_symmetric, whole_anti}
use Rattle.correlate_spec.specs.Weighed.{summed, whole_ops, cell_term, pair_term, plain_at, pairs_at, weighed_at}
use Rattle.correlate_spec.proofs.Summed.{summed_agree}
use Rattle.correlate_spec.proofs.Folded.{sum_folded}

-- a pair and its left weight: both cells, each times its own
sum_weighed : (a b l r : ℤ) → r ≡ l → (a +ℤ b) *ℤ l ≡ a *ℤ l +ℤ b *ℤ r
sum_weighed a b l r e = *ℤ-distrib-right a b l ∙ ap (λ (x : ℤ). a *ℤ l +ℤ b *ℤ x) (sym e)

difference_weighed : (a b l r : ℤ) → r ≡ neg_ℤ l → (a -ℤ b) *ℤ l ≡ a *ℤ l +ℤ b *ℤ r
difference_weighed a b l r e =
    *ℤ-distrib-right a (neg_ℤ b) l ∙ ap (λ (x : ℤ). a *ℤ l +ℤ x) (negℤ_*ℤ b l ∙ ap neg_ℤ (*ℤ_comm b l) ∙ sym (negℤ_*ℤ l b) ∙ *ℤ_comm (neg_ℤ l) b ∙ ap (λ (x : ℤ). b *ℤ x) (sym e))

module _ (w s : List ℤ) (i : ℕ) where
  pairs_plain : (op : ℤ → ℤ → ℤ) (P : ℤ → ℤ → Type 0) → ((a b l r : ℤ) → P r l → op a b *ℤ l ≡ a *ℤ l +ℤ b *ℤ r) → Mirrored P (pos 0) w
      → pairs_at whole_ops op w s i ≡ plain_at whole_ops w s i
  pairs_plain op P joined m =
      summed_agree ◌+ℤ◌ (f h) (pair_term whole_ops op w s i) (λ j. f j +ℤ f (h + h - j)) h
      (λ j b. joined (cell j) (cell (length w - 1 - j)) (get_or w j (pos 0)) (get_or w (length w - 1 - j) (pos 0)) (m.pairs j b) ∙ ap (λ (k : ℕ). f j +ℤ f k) (mirror j b))
      ∙ sym (sum_folded h f)
      ∙ ap (summed ◌+ℤ◌ (pos 0) f) whole
    where
      h : ℕ
      h = length w / 2

      f : ℕ → ℤ
      f = cell_term whole_ops w s i

      cell : ℕ → ℤ
      cell j = get_or s (i + j) (pos 0)

      mirror : (j : ℕ) → j < h → length w - 1 - j ≡ h + h - j
      mirror j b = omega (arith, m.odd)

      whole : suc (h + h) ≡ length w
      whole = omega (arith, m.odd)

  pub weighed_plain : (class : SymmetryState) → class ≡ class_z w → weighed_at whole_ops class w s i ≡ plain_at whole_ops w s i
  weighed_plain NonSymmetric e = refl
  weighed_plain Symmetric e = pairs_plain ◌+ℤ◌ (λ r l. r ≡ l) sum_weighed (whole_symmetric w (sym e))
  weighed_plain AntiSymmetric e = pairs_plain ◌-ℤ◌ (λ r l. r ≡ neg_ℤ l) difference_weighed (whole_anti w (sym e))
