-- Whole numbers: a sum of an odd number of terms, folded around the middle one.
-- Assumes nothing.
use Prim.Native.Nat.{ℕ, zero, suc, ◌+◌, ◌-◌, ◌<◌}
use mathlib.Core.Path.{◌≡◌, refl, sym, ap, ◌∙◌}
use native.Mathlib.Omega.{arith}
use lib.IntN.{ℤ, pos, ◌+ℤ◌, +ℤ_assoc, +ℤ_comm, +ℤ_idl}
use Rattle.numbers.proofs.IntSum.{+ℤ-right-comm}
use Rattle.correlate_spec.specs.Weighed.{summed}
use Rattle.correlate_spec.proofs.Summed.{summed-front, summed_agree}

-- a summand of the start, taken out
pub start_moved : (a b : ℤ) (f : ℕ → ℤ) (n : ℕ) → summed ◌+ℤ◌ (a +ℤ b) f n ≡ summed ◌+ℤ◌ a f n +ℤ b
unfolding summed
start_moved a b f zero = refl
start_moved a b f (suc n) = ap (λ (x : ℤ). x +ℤ f n) (start_moved a b f n) ∙ +ℤ-right-comm (summed ◌+ℤ◌ a f n) b (f n)

-- one pair more, around the outside
fold_more : (h : ℕ) (f : ℕ → ℤ) → summed ◌+ℤ◌ (pos 0) (λ k. f (suc k)) (suc (h + h)) ≡ summed ◌+ℤ◌ (f (suc h)) (λ j. f (suc j) +ℤ f (suc (h + h - j))) h
    → summed ◌+ℤ◌ (pos 0) f (suc (suc h + suc h)) ≡ summed ◌+ℤ◌ (f (suc h)) (λ j. f j +ℤ f (suc h + suc h - j)) (suc h)
unfolding summed
fold_more h f ih = ap (summed ◌+ℤ◌ (pos 0) f) twice ∙ ap (λ (x : ℤ). x +ℤ f (suc (suc (h + h)))) left ∙ +ℤ_assoc inner (f 0) (f (suc (suc (h + h)))) ∙ sym right
  where
    inner : ℤ
    inner = summed ◌+ℤ◌ (f (suc h)) (λ j. f (suc j) +ℤ f (suc (h + h - j))) h

    twice : suc (suc h + suc h) ≡ suc (suc (suc (h + h)))
    twice = omega arith

    left : summed ◌+ℤ◌ (pos 0) f (suc (suc (h + h))) ≡ inner +ℤ f 0
    left = summed-front ◌+ℤ◌ (pos 0) f (suc (h + h)) ∙ start_moved (pos 0) (f 0) (λ k. f (suc k)) (suc (h + h)) ∙ ap (λ (x : ℤ). x +ℤ f 0) ih

    last : suc h + suc h - 0 ≡ suc (suc (h + h))
    last = omega arith

    same : (j : ℕ) → j < h → suc h + suc h - suc j ≡ suc (h + h - j)
    same j b = omega arith

    right : summed ◌+ℤ◌ (f (suc h)) (λ j. f j +ℤ f (suc h + suc h - j)) (suc h) ≡ inner +ℤ (f 0 +ℤ f (suc (suc (h + h))))
    right =
        summed-front ◌+ℤ◌ (f (suc h)) (λ j. f j +ℤ f (suc h + suc h - j)) h
        ∙ start_moved (f (suc h)) (f 0 +ℤ f (suc h + suc h - 0)) (λ j. f (suc j) +ℤ f (suc h + suc h - suc j)) h
        ∙ (λ i. summed_agree ◌+ℤ◌ (f (suc h)) (λ j. f (suc j) +ℤ f (suc h + suc h - suc j)) (λ j. f (suc j) +ℤ f (suc (h + h - j))) h
        (λ j b. ap (λ m. f (suc j) +ℤ f m) (same j b)) i +ℤ (f 0 +ℤ f (last i)))

pub sum_folded : (h : ℕ) (f : ℕ → ℤ) → summed ◌+ℤ◌ (pos 0) f (suc (h + h)) ≡ summed ◌+ℤ◌ (f h) (λ j. f j +ℤ f (h + h - j)) h
unfolding summed
sum_folded zero f = +ℤ_idl (f 0)
sum_folded (suc h) f = fold_more h f (sum_folded h (λ k. f (suc k)))
