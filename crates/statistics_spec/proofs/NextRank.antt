-- A member of a sorted list by place, found without sorting: where k members are at most z, the one at place k is the first of those that are not. So the one after
-- the member at place k is the same again where more than k + 1 members are at most it, else the first of those that are not.
-- Assumes nothing.
use mathlib.Core.Path.{◌≡◌, refl, sym, ap, subst, ◌∙◌}
use mathlib.Core.Bool.{Bool, true, false, not, cond}
use mathlib.Core.Logic.{◌⊎◌, inl, inr}
use mathlib.Core.List.Memᴰ
use mathlib.Core.List.{List, [], ◌∷◌, map, Memᴰ}
use Prim.Native.Nat.{ℕ, suc, ◌+◌, ◌^◌, ◌≤◌, ◌<◌}
use native.Mathlib.Omega.{arith}
use lib.Dec.{T}
use lib.IntN.{ℤ, pos}
use lib.ListN.{length, get_or, drop, drop_of_length-le}
use lib.Signed.{le_z, mag}
use mir.Syntax.{w32}
use mir.Val.{to_z, of_z}
use Rattle.numbers.specs.Lists.{Every}
use Rattle.numbers.specs.Order.{Total, extreme_from}
use Rattle.numbers.proofs.Any.{every_at, every_mem, every_imp, every_map}
use Rattle.numbers.proofs.Index.{drop-next}
use Rattle.numbers.proofs.IntOrder.{total_≤}
use Rattle.numbers.proofs.Extreme.{extreme_bound, extreme_every}
use Rattle.numbers.proofs.Lesser.{lesser}
use Rattle.numbers.proofs.Read.{read_at_lem}
use Rattle.numbers.proofs.Tests.{T_true, T_false, cond_ind}
use Rattle.statistics_spec.specs.Sorting.{sorted, at_most, past, least_above}
use Rattle.statistics_spec.proofs.Sorting.{length-sorted, every_sorted}
use Rattle.statistics_spec.proofs.Rank.{passed, rank_reached, rank_passed}

module _ {A : Type 0} (le : A → A → Bool) (O : Total le) where
  -- ---- the first above z: at or before each member above z, and one of these or the top
  above_bound : (z top : A) (l : List A) → Every (λ x. T (not (le x z)) → T (le (least_above le z top l) x)) l
  above_bound z top l = every_mem _ l (λ x m n. subst (λ y. T (le (least_above le z top l) y)) (passed (le x z) top x n)
      (extreme_bound le O top (past le z top x) (top ∷ map (past le z top) l) (Memᴰ.tail (Memᴰ.map (past le z top) m))))

  above_every : (P : A → Type 0) (z top : A) (l : List A) → P top → Every (λ x. T (not (le x z)) → P x) l → P (least_above le z top l)
  above_every P z top l p h =
      extreme_every le P top (top ∷ map (past le z top) l) p
      (p, every_map P (past le z top) l (every_imp (λ x. T (not (le x z)) → P x) (λ x. P (past le z top x)) l (λ x f. cond_ind (le x z) top x P (λ t. p) f) h))

  -- ---- as a loop keeps it: m is the first of those before place i
  module _ (z top : A) (l : List A) (i : ℕ) (m v : A) (e : extreme_from le m (map (past le z top) (drop i l)) ≡ v) where
    above_more : (d : A) {n : A} → i < length l → n ≡ lesser le m (past le z top (get_or l i d)) → extreme_from le n (map (past le z top) (drop (i + 1) l)) ≡ v
    above_more d h q = ap (λ y. extreme_from le y (map (past le z top) (drop (i + 1) l))) q ∙ sym (ap (λ s. extreme_from le m (map (past le z top) s)) (drop-next l i d h)) ∙ e

    pub above_last : length l ≤ i → m ≡ v
    above_last h = sym (ap (λ s. extreme_from le m (map (past le z top) s)) (drop_of_length-le l h)) ∙ e

  -- ---- a member above z is one more of those that are at most it
  count_mono : (z x : A) (l : List A) → T (le z x) → at_most le z l ≤ at_most le x l
  unfolding at_most
  count_mono z x [] h = omega arith
  count_mono z x (y ∷ ys) h = both (le y z) (le y x) (λ t. O.chain y z x t h) (count_mono z x ys h)
    where
      both : (s t : Bool) {a b : ℕ} → (T s → T t) → a ≤ b → cond s (suc a) a ≤ cond t (suc b) b
      both true true f k = omega arith
      both true false f k = absurd (f tt)
      both false true f k = omega arith
      both false false f k = k

  count_more : (z x : A) (l : List A) → T (le z x) → T (not (le x z)) → Memᴰ x l → at_most le z l < at_most le x l
  unfolding at_most
  count_more z x [] h n k = absurd (Memᴰ.not-nil k)
  count_more z x (y ∷ ys) h n k = go (λ r. count_more z x ys h n r) (Memᴰ.cases_cons k)
    where
      rest : (s t : Bool) {a b : ℕ} → (T s → T t) → a < b → cond s (suc a) a < cond t (suc b) b
      rest true true f k = omega arith
      rest true false f k = absurd (f tt)
      rest false true f k = omega arith
      rest false false f k = k

      here : (s t : Bool) {a b : ℕ} → T (not s) → T t → a ≤ b → cond s (suc a) a < cond t (suc b) b
      here true t f g k = absurd f
      here false true f g k = omega arith
      here false false f g k = absurd g

      go : (Memᴰ x ys → at_most le z ys < at_most le x ys) → (x ≡ y) ⊎ Memᴰ x ys → cond (le y z) (suc (at_most le z ys)) (at_most le z ys) < cond (le y x) (suc (at_most le x ys)) (at_most le x ys)
      go f (inl e) = here (le y z) (le y x) (subst (λ w. T (not (le w z))) e n) (subst (λ w. T (le w x)) e (O.itself x)) (count_mono z x ys h)
      go f (inr r) = rest (le y z) (le y x) (λ t. O.chain y z x t h) (f r)

  -- ---- the member at a place
  module _ (d : A) (l : List A) where
    ranked_within : (j : ℕ) → j < length l → (w : A) → j < at_most le w l → T (le (get_or (sorted le l) j d) w)
    ranked_within j b w h = go (le (get_or (sorted le l) j d) w) refl
      where
        go : (t : Bool) → le (get_or (sorted le l) j d) w ≡ t → T t
        go true e = tt
        go false e = absurd (past (rank_passed le O w d l j b (T_false e)))
          where
            past : at_most le w l ≤ j → ⊥
            past q = omega arith

    -- the first above z, where j members are at most z, is the one at place j
    module _ (j : ℕ) (b : j < length l) (z : A) (e : at_most le z l ≡ j) where
      abbrev at : A
      at = get_or (sorted le l) j d

      further : T (not (le at z))
      further = go (le at z) refl
        where
          go : (t : Bool) → le at z ≡ t → T (not t)
          go true q = absurd (past (rank_reached le O z d l j b (T_true q)))
            where
              past : j < at_most le z l → ⊥
              past r = omega arith
          go false q = tt

      pub first_above : (top : A) → T (le at top) → least_above le z top l ≡ at
      first_above top t = let m = least_above le z top l in
          O.same m at
          (every_at (λ x. T (not (le x z)) → T (le m x)) (sorted le l) d (every_sorted le (λ x. T (not (le x z)) → T (le m x)) l (above_bound z top l)) j (omega (arith, length-sorted le l)) further)
          (above_every (λ y. T (le at y)) z top l t (every_mem _ l (λ x q n. ranked_within j b x (omega (arith, count_more z x l (O.other x z n) n q)))))

    -- the member at place k + 1, from z, the one at place k
    module _ (k : ℕ) (b : k + 1 < length l) (z : A) (e : z ≡ get_or (sorted le l) k d) where
      abbrev next : A
      next = get_or (sorted le l) (k + 1) d

      reached : k < at_most le z l
      reached = rank_reached le O z d l k (omega arith) (subst (λ w. T (le w z)) e (O.itself z))

      pub next_again : k + 1 < at_most le z l → z ≡ next
      next_again h = O.same z next (subst (λ w. T (le w next)) (sym e) (ranked_within k (omega arith) next (omega (arith, rank_reached le O next d l (k + 1) b (O.itself next)))))
          (ranked_within (k + 1) b z h)

      pub next_above : (top : A) → T (le next top) → at_most le z l ≤ k + 1 → least_above le z top l ≡ next
      next_above top t h = first_above (k + 1) b z (omega (arith, reached)) top t

-- ---- as the machine takes the first above z at 32 bits, of a level that was read
pub above_read : (z top : ℤ) (l : List ℤ) (i : ℕ) (m v : ℤ) {r : ℤ} → let f = past le_z z top in let x = get_or l i (pos 0) in
    extreme_from le_z m (map f (drop i l)) ≡ v → i < length l → mag x < 2 ^ 31 → mag r < 2 ^ 31 → r ≡ lesser le_z m (f (to_z w32 (of_z w32 x)))
    → extreme_from le_z (to_z w32 (of_z w32 r)) (map f (drop (i + 1) l)) ≡ v
above_read z top l i m v e h f g q = above_more le_z total_≤ z top l i m v e (pos 0) h (read_at_lem w32 g (q ∙ ap (λ y. lesser le_z m (past le_z z top y)) back))
  where
    back : to_z w32 (of_z w32 (get_or l i (pos 0))) ≡ get_or l i (pos 0)
    back = read_at_lem w32 f refl
