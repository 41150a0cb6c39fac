-- The first member of a list in a total order: before every member, one of them, and after whatever comes before them all.
-- These three fix it (extreme-unique), so its users need nothing else of it. Under ≤ it is the least, under ≥ the greatest.
-- Assumes nothing.
use mathlib.Core.Path.{◌≡◌, refl, sym, subst}
use mathlib.Core.Bool.{Bool, true, false, cond}
use mathlib.Core.Logic.{◌⊎◌, inl, inr}
use mathlib.Core.List.Memᴰ
use mathlib.Core.List.{List, [], ◌∷◌, Memᴰ}
use Prim.Native.Nat.{ℕ, ◌<◌}
use native.Mathlib.Nat.{not-suc-le-zero}
use native.Mathlib.Omega.{arith}
use lib.Dec.{T}
use lib.ListN.{length, get_or}
use Rattle.numbers.proofs.Index.{get_d_mem, mem_get_d}
use Rattle.numbers.proofs.Lesser.{lesser-left, lesser-right}
use Rattle.numbers.proofs.Tests.{cond_ind}
use Rattle.numbers.specs.Lists.{Every}
use Rattle.numbers.specs.Order.{Total, extreme_from, extreme}

-- what every member has, and the given level where there is none, the first has, in any order
pub extreme_every : {A : Type 0} (le : A → A → Bool) (P : A → Type 0) (d : A) (xs : List A) → P d → Every P xs → P (extreme le d xs)
extreme_every le P d [] p h = p
extreme_every le P d (x ∷ xs) p h = from x xs h.0 h.1
  where
    from : (m : _) (xs : List _) → P m → Every P xs → P (extreme_from le m xs)
    from m [] p h = p
    from m (x ∷ xs) p h = from (cond (le m x) m x) xs (cond_ind (le m x) m x P (λ t. p) (λ t. h.0)) h.1

module _ {A : Type 0} (le : A → A → Bool) (O : Total le) where
  -- ---- before every member
  from_seed : (m : A) (xs : List A) → T (le (extreme_from le m xs) m)
  from_seed m [] = O.itself m
  from_seed m (x ∷ xs) = O.chain _ _ _ (from_seed (cond (le m x) m x) xs) (lesser-left le O m x)

  from_bound : (m y : A) (xs : List A) → Memᴰ y xs → T (le (extreme_from le m xs) y)
  from_bound m y [] k = absurd (Memᴰ.not-nil k)
  from_bound m y (x ∷ xs) k = go (λ r. from_bound (cond (le m x) m x) y xs r) (Memᴰ.cases_cons k)
    where
      go : (Memᴰ y xs → T (le (extreme_from le (cond (le m x) m x) xs) y)) → (y ≡ x) ⊎ Memᴰ y xs → T (le (extreme_from le (cond (le m x) m x) xs) y)
      go f (inl e) =
          subst (λ (w : A). T (le (extreme_from le (cond (le m x) m x) xs) w)) (sym e)
          (O.chain _ _ _ (from_seed (cond (le m x) m x) xs) (lesser-right le O m x))
      go f (inr r) = f r

  pub extreme_bound : (d y : A) (xs : List A) → Memᴰ y xs → T (le (extreme le d xs) y)
  extreme_bound d y [] k = absurd (Memᴰ.not-nil k)
  extreme_bound d y (x ∷ xs) k = go (Memᴰ.cases_cons k)
    where
      go : (y ≡ x) ⊎ Memᴰ y xs → T (le (extreme_from le x xs) y)
      go (inl e) = subst (λ (w : A). T (le (extreme_from le x xs) w)) (sym e) (from_seed x xs)
      go (inr r) = from_bound x y xs r

  -- ---- one of them
  from_occurs : (m : A) (xs : List A) → (extreme_from le m xs ≡ m) ⊎ Memᴰ (extreme_from le m xs) xs
  from_occurs m [] = inl refl
  from_occurs m (x ∷ xs) = go (from_occurs (cond (le m x) m x) xs)
    where
      choose : (t : Bool) → extreme_from le (cond (le m x) m x) xs ≡ cond t m x
          → (extreme_from le (cond (le m x) m x) xs ≡ m) ⊎ Memᴰ (extreme_from le (cond (le m x) m x) xs) (x ∷ xs)
      choose true e = inl e
      choose false e = inr (Memᴰ.head e)

      go : (extreme_from le (cond (le m x) m x) xs ≡ cond (le m x) m x) ⊎ Memᴰ (extreme_from le (cond (le m x) m x) xs) xs
          → (extreme_from le (cond (le m x) m x) xs ≡ m) ⊎ Memᴰ (extreme_from le (cond (le m x) m x) xs) (x ∷ xs)
      go (inl e) = choose (le m x) e
      go (inr r) = inr (Memᴰ.tail r)

  pub extreme_occurs : (d : A) (xs : List A) → 0 < length xs → Memᴰ (extreme le d xs) xs
  extreme_occurs d [] h = absurd (not-suc-le-zero h)
  extreme_occurs d (x ∷ xs) h = go (from_occurs x xs)
    where
      go : (extreme_from le x xs ≡ x) ⊎ Memᴰ (extreme_from le x xs) xs → Memᴰ (extreme_from le x xs) (x ∷ xs)
      go (inl e) = Memᴰ.head e
      go (inr r) = Memᴰ.tail r

  -- ---- after every lower bound
  pub least_above_lem : (d y : A) (xs : List A) → 0 < length xs → ((x : A) → Memᴰ x xs → T (le y x)) → T (le y (extreme le d xs))
  least_above_lem d y xs h f = f (extreme le d xs) (extreme_occurs d xs h)

  -- a member that comes before every member is the first
  pub extreme_unique : (d y : A) (xs : List A) → Memᴰ y xs → ((x : A) → Memᴰ x xs → T (le y x)) → 0 < length xs → y ≡ extreme le d xs
  extreme_unique d y xs k f h = O.same y (extreme le d xs) (least_above_lem d y xs h f) (extreme_bound d y xs k)

  -- the same by index
  pub extreme_unique_at : (d y : A) (xs : List A) (k : ℕ) → k < length xs → y ≡ get_or xs k d → ((j : ℕ) → j < length xs → T (le y (get_or xs j d))) → y ≡ extreme le d xs
  extreme_unique_at d y xs k h e f =
      extreme_unique d y xs (Memᴰ.cast e (get_d_mem xs k d h))
      (λ x m. let i = mem_get_d x xs d m in subst (λ (w : A). T (le y w)) (sym i.2) (f i.0 i.1)) (omega arith)
