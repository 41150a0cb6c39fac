-- Sums in the order of a class, of cells and weights that agree; and a plain sum of whole numbers taken from its end.
-- Assumes nothing.
use Prim.Native.Nat.{ℕ, zero, suc, ◌-◌, ◌/◌, ◌<◌}
use mathlib.Core.Path.{◌≡◌, refl, sym, ap, ◌∙◌}
use native.Mathlib.Omega.{arith}
use lib.IntN.{ℤ, pos, ◌+ℤ◌}
use Rattle.symmetry_spec.specs.declared.SymmetryState.{SymmetryState}
use Rattle.symmetry_spec.specs.declared.SymmetryState.TheVariants.{NonSymmetric, Symmetric, AntiSymmetric}
use Rattle.correlate_spec.specs.Weighed.{Ops, summed, term_of, pair_of, pairs_sum, ordered_sum}
use Rattle.correlate_spec.proofs.Summed.{summed_agree, summed-front}
use Rattle.correlate_spec.proofs.Folded.{start_moved}

module _ {A : Type 0} (o : Ops A) {x y v u : ℕ → A} {len : ℕ} (some : 0 < len) (cells : (k : ℕ) → k < len → x k ≡ y k) (weights : (k : ℕ) → k < len → v k ≡ u k) where
  term_agrees : (k : ℕ) → k < len → term_of o x v k ≡ term_of o y u k
  term_agrees k b t = o.product (cells k b t) (weights k b t)

  pairs_agree : (op : A → A → A) → pairs_sum o op x v len ≡ pairs_sum o op y u len
  pairs_agree op =
      ap (λ a. summed o.sum a (pair_of o op x v len) (len / 2)) (term_agrees (len / 2) (omega arith))
      ∙ summed_agree o.sum _ (pair_of o op x v len) (pair_of o op y u len) (len / 2)
      (λ k b t. o.product (op (cells k (omega arith) t) (cells (len - 1 - k) (omega arith) t)) (weights k (omega arith) t))

  pub ordered_agree : (class : SymmetryState) → ordered_sum o class x v len ≡ ordered_sum o class y u len
  ordered_agree NonSymmetric = summed_agree o.sum o.none (term_of o x v) (term_of o y u) len term_agrees
  ordered_agree Symmetric = pairs_agree o.sum
  ordered_agree AntiSymmetric = pairs_agree o.difference

pub summed-turned : (f : ℕ → ℤ) (n : ℕ) → summed ◌+ℤ◌ (pos 0) (λ k. f (n - 1 - k)) n ≡ summed ◌+ℤ◌ (pos 0) f n
unfolding summed
summed-turned f zero = refl
summed-turned f (suc n) =
    summed-front ◌+ℤ◌ (pos 0) (λ k. f (suc n - 1 - k)) n
    ∙ start_moved (pos 0) (f (suc n - 1 - 0)) (λ k. f (suc n - 1 - suc k)) n
    ∙ (λ t. summed_agree ◌+ℤ◌ (pos 0) (λ k. f (suc n - 1 - suc k)) (λ k. f (n - 1 - k)) n (λ k b. ap f (omega arith)) t +ℤ f (last t))
    ∙ ap (λ (z : ℤ). z +ℤ f n) (summed-turned f n)
  where
    last : suc n - 1 - 0 ≡ n
    last = omega arith
