-- Products of whole numbers: they distribute, associate, turn with the sign, and keep the order under a factor not below 0.
-- Assumes nothing.
use mathlib.Core.Path.{◌≡◌, refl, sym, ap, subst₂, ◌∙◌}
use mathlib.Core.List.{List, [], ◌∷◌, map}
use Prim.Native.Nat.{ℕ, zero, suc, ◌*◌}
use lib.IntN.{ℤ, pos, negsuc, suc_ℤ, pred_ℤ, neg_ℤ, ◌+ℤ◌, ◌-ℤ◌, ◌*ℤ◌, +ℤ_idr, +ℤ-suc_ℤ, +ℤ-pred_ℤ, +ℤ_assoc, suc_ℤ-*ℤ, pred_ℤ-*ℤ, zero-*ℤ, *ℤ-zero, *ℤ_comm, neg_ℤ-neg_ℤ}
use lib.Signed.{◌≤ℤ◌, ≤ℤ_refl}
use Rattle.numbers.specs.Sums.{sum_of}
use Rattle.numbers.proofs.IntSum.{int_steps, +ℤ-mono}

-- ---- distributive, associative
pub *ℤ-distrib-right : (a b c : ℤ) → (a +ℤ b) *ℤ c ≡ a *ℤ c +ℤ b *ℤ c
*ℤ-distrib-right a b c = int_steps (λ k. (a +ℤ k) *ℤ c ≡ a *ℤ c +ℤ k *ℤ c) none up down b
  where
    none : (a +ℤ pos zero) *ℤ c ≡ a *ℤ c +ℤ pos zero *ℤ c
    none = ap (λ (x : ℤ). x *ℤ c) (+ℤ_idr a) ∙ sym (+ℤ_idr (a *ℤ c)) ∙ ap (λ (x : ℤ). a *ℤ c +ℤ x) (sym (zero-*ℤ c))

    up : (k : ℤ) → (a +ℤ k) *ℤ c ≡ a *ℤ c +ℤ k *ℤ c → (a +ℤ suc_ℤ k) *ℤ c ≡ a *ℤ c +ℤ suc_ℤ k *ℤ c
    up k ih =
        ap (λ (x : ℤ). x *ℤ c) (+ℤ-suc_ℤ a k) ∙ suc_ℤ-*ℤ (a +ℤ k) c ∙ ap (λ (x : ℤ). x +ℤ c) ih
        ∙ +ℤ_assoc (a *ℤ c) (k *ℤ c) c ∙ ap (λ (x : ℤ). a *ℤ c +ℤ x) (sym (suc_ℤ-*ℤ k c))

    down : (k : ℤ) → (a +ℤ k) *ℤ c ≡ a *ℤ c +ℤ k *ℤ c → (a +ℤ pred_ℤ k) *ℤ c ≡ a *ℤ c +ℤ pred_ℤ k *ℤ c
    down k ih =
        ap (λ (x : ℤ). x *ℤ c) (+ℤ-pred_ℤ a k) ∙ pred_ℤ-*ℤ (a +ℤ k) c ∙ ap (λ (x : ℤ). x +ℤ neg_ℤ c) ih
        ∙ +ℤ_assoc (a *ℤ c) (k *ℤ c) (neg_ℤ c) ∙ ap (λ (x : ℤ). a *ℤ c +ℤ x) (sym (pred_ℤ-*ℤ k c))

pub *ℤ-distrib-left : (a b c : ℤ) → a *ℤ (b +ℤ c) ≡ a *ℤ b +ℤ a *ℤ c
*ℤ-distrib-left a b c = *ℤ_comm a (b +ℤ c) ∙ *ℤ-distrib-right b c a ∙ (λ i. *ℤ_comm b a i +ℤ *ℤ_comm c a i)

-- the sign of a factor is the sign of the product
pub negℤ_*ℤ : (a b : ℤ) → neg_ℤ a *ℤ b ≡ neg_ℤ (a *ℤ b)
negℤ_*ℤ (pos zero) b = zero-*ℤ b ∙ sym (ap neg_ℤ (zero-*ℤ b))
negℤ_*ℤ (pos (suc m)) (pos n) = refl
negℤ_*ℤ (pos (suc m)) (negsuc n) = sym (neg_ℤ-neg_ℤ (pos (suc m * suc n)))
negℤ_*ℤ (negsuc m) (pos n) = sym (neg_ℤ-neg_ℤ (pos (suc m * n)))
negℤ_*ℤ (negsuc m) (negsuc n) = refl

pub *ℤ-assoc : (a b c : ℤ) → (a *ℤ b) *ℤ c ≡ a *ℤ (b *ℤ c)
*ℤ-assoc a b c = int_steps (λ k. (k *ℤ b) *ℤ c ≡ k *ℤ (b *ℤ c)) none up down a
  where
    none : (pos zero *ℤ b) *ℤ c ≡ pos zero *ℤ (b *ℤ c)
    none = ap (λ (x : ℤ). x *ℤ c) (zero-*ℤ b) ∙ zero-*ℤ c ∙ sym (zero-*ℤ (b *ℤ c))

    up : (k : ℤ) → (k *ℤ b) *ℤ c ≡ k *ℤ (b *ℤ c) → (suc_ℤ k *ℤ b) *ℤ c ≡ suc_ℤ k *ℤ (b *ℤ c)
    up k ih =
        ap (λ (x : ℤ). x *ℤ c) (suc_ℤ-*ℤ k b) ∙ *ℤ-distrib-right (k *ℤ b) b c
        ∙ ap (λ (x : ℤ). x +ℤ b *ℤ c) ih ∙ sym (suc_ℤ-*ℤ k (b *ℤ c))

    down : (k : ℤ) → (k *ℤ b) *ℤ c ≡ k *ℤ (b *ℤ c) → (pred_ℤ k *ℤ b) *ℤ c ≡ pred_ℤ k *ℤ (b *ℤ c)
    down k ih =
        ap (λ (x : ℤ). x *ℤ c) (pred_ℤ-*ℤ k b) ∙ *ℤ-distrib-right (k *ℤ b) (neg_ℤ b) c
        ∙ ap (λ (x : ℤ). (k *ℤ b) *ℤ c +ℤ x) (negℤ_*ℤ b c) ∙ ap (λ (x : ℤ). x -ℤ b *ℤ c) ih ∙ sym (pred_ℤ-*ℤ k (b *ℤ c))

-- ---- order
pub *ℤ-mono : (n : ℕ) {a b : ℤ} → a ≤ℤ b → (pos n *ℤ a) ≤ℤ (pos n *ℤ b)
*ℤ-mono zero {a} {b} h = subst₂ (λ (x y : ℤ). x ≤ℤ y) (sym (zero-*ℤ a)) (sym (zero-*ℤ b)) (≤ℤ_refl (pos zero))
*ℤ-mono (suc n) {a} {b} h = subst₂ (λ (x y : ℤ). x ≤ℤ y) (sym (suc_ℤ-*ℤ (pos n) a)) (sym (suc_ℤ-*ℤ (pos n) b)) (+ℤ-mono (*ℤ-mono n h) h)

-- ---- a factor common to every member of a sum
pub sum_scaled : (c : ℤ) (xs : List ℤ) → sum_of (map (λ x. c *ℤ x) xs) ≡ c *ℤ sum_of xs
sum_scaled c [] = sym (*ℤ-zero c)
sum_scaled c (x ∷ xs) = ap (λ (s : ℤ). c *ℤ x +ℤ s) (sum_scaled c xs) ∙ sym (*ℤ-distrib-left c x (sum_of xs))
