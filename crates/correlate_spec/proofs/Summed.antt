-- Sums taken from left to right, over any element and any operation: one term more, some terms more, the first term moved into the start, and two sums of the same terms.
-- Assumes nothing.
use Prim.Native.Nat.{ℕ, zero, suc, ◌+◌, ◌<◌}
use mathlib.Core.Path.{◌≡◌, refl, sym, ap, ◌∙◌}
use native.Mathlib.Nat.{add-zero, add-suc}
use native.Mathlib.Numerals.{add-one}
use native.Mathlib.Omega.{arith}
use Rattle.correlate_spec.specs.Weighed.{summed}

module _ {A : Type 0} (add : A → A → A) where
  pub summed-more : (a : A) (f : ℕ → A) (n : ℕ) → add (summed add a f n) (f n) ≡ summed add a f (n + 1)
  unfolding summed
  summed-more a f n = ap (summed add a f) (sym (add-one n))

  -- the first j terms, and from there m more
  pub summed_parts : (a : A) (f : ℕ → A) (j m : ℕ) → summed add (summed add a f j) (λ k. f (j + k)) m ≡ summed add a f (j + m)
  unfolding summed
  summed_parts a f j zero = ap (summed add a f) (sym (add-zero j))
  summed_parts a f j (suc m) = ap (λ x. add x (f (j + m))) (summed_parts a f j m) ∙ ap (summed add a f) (sym (add-suc j m))

  pub summed-front : (a : A) (f : ℕ → A) (n : ℕ) → summed add a f (suc n) ≡ summed add (add a (f 0)) (λ k. f (suc k)) n
  unfolding summed
  summed-front a f zero = refl
  summed-front a f (suc n) = ap (λ x. add x (f (suc n))) (summed-front a f n)

  pub summed_agree : (a : A) (f g : ℕ → A) (n : ℕ) → ((k : ℕ) → k < n → f k ≡ g k) → summed add a f n ≡ summed add a g n
  unfolding summed
  summed_agree a f g zero h = refl
  summed_agree a f g (suc n) h = (λ i. add (summed_agree a f g n (λ k b. h k (below k b)) i) (h n last i))
    where
      below : (k : ℕ) → k < n → k < suc n
      below k b = omega arith

      last : n < suc n
      last = omega arith
