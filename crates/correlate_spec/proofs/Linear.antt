-- Sums of whole numbers are linear: of sums, of multiples, and of one number over and over.
-- Assumes nothing.
use Prim.Native.Nat.{ℕ, zero, suc}
use mathlib.Core.Path.{◌≡◌, refl, sym, ap, ◌∙◌}
use lib.IntN.{ℤ, pos, ◌+ℤ◌, ◌*ℤ◌, +ℤ_assoc, zero-*ℤ, suc_ℤ-*ℤ}
use Rattle.numbers.proofs.IntProduct.{*ℤ-distrib-right}
use Rattle.numbers.proofs.IntSum.{+ℤ-right-comm}
use Rattle.correlate_spec.specs.Weighed.{summed}

interchange : (a b c d : ℤ) → a +ℤ b +ℤ (c +ℤ d) ≡ a +ℤ c +ℤ (b +ℤ d)
interchange a b c d = sym (+ℤ_assoc (a +ℤ b) c d) ∙ ap (λ (x : ℤ). x +ℤ d) (+ℤ-right-comm a b c) ∙ +ℤ_assoc (a +ℤ c) b d

pub summed-plus : (f g : ℕ → ℤ) (n : ℕ) → summed ◌+ℤ◌ (pos 0) (λ j. f j +ℤ g j) n ≡ summed ◌+ℤ◌ (pos 0) f n +ℤ summed ◌+ℤ◌ (pos 0) g n
unfolding summed
summed-plus f g zero = refl
summed-plus f g (suc n) = ap (λ (x : ℤ). x +ℤ (f n +ℤ g n)) (summed-plus f g n) ∙ interchange (summed ◌+ℤ◌ (pos 0) f n) (summed ◌+ℤ◌ (pos 0) g n) (f n) (g n)

pub summed_times : (f : ℕ → ℤ) (c : ℤ) (n : ℕ) → summed ◌+ℤ◌ (pos 0) (λ j. f j *ℤ c) n ≡ summed ◌+ℤ◌ (pos 0) f n *ℤ c
unfolding summed
summed_times f c zero = sym (zero-*ℤ c)
summed_times f c (suc n) = ap (λ (x : ℤ). x +ℤ f n *ℤ c) (summed_times f c n) ∙ sym (*ℤ-distrib-right (summed ◌+ℤ◌ (pos 0) f n) (f n) c)

pub summed_same : (c : ℤ) (n : ℕ) → summed ◌+ℤ◌ (pos 0) (λ j. c) n ≡ pos n *ℤ c
unfolding summed
summed_same c zero = sym (zero-*ℤ c)
summed_same c (suc n) = ap (λ (x : ℤ). x +ℤ c) (summed_same c n) ∙ sym (suc_ℤ-*ℤ (pos n) c)
