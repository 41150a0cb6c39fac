-- The votes along a row: the counts of a cell and its neighbours at the row's ends and inside, and the loop that stores them from place a on.
-- Assumes nothing.
use mathlib.Core.Path.{◌≡◌, refl, sym, ap, subst, ◌∙◌}
use mathlib.Core.Bool.{Bool, true, false, not, ◌||◌, ◌&&◌}
use mathlib.Core.List.{List}
use Prim.Native.Nat.{ℕ, ◌+◌, ◌-◌, ◌*◌, ◌/◌, ◌≤◌, ◌<◌}
use native.Mathlib.Omega.{arith}
use borrow.Author.Tests.{ltb-true, ltb-false, lt-ltb, le-ltb, eqb-true, eqb-false, ne_eqb}
use mir.Syntax.{w8}
use mir.Val.{Fits}
use lib.Dec.{eqb, ltb}
use lib.ListN.{length, get_or, set, length-set}
use Rattle.numbers.proofs.Stored.{Stored, stored_none, stored_one, stored_then, stored_table, table_stored}
use Rattle.numbers.proofs.Tests.{ltb-more}
use Rattle.median_spec.specs.Around.{total}
use Rattle.median_spec.specs.ByRows.{voted_at, Counted, in_row, set_row}
use Rattle.median_spec.proofs.Totals.{around-first, around-inside, around-last}

-- ---- the counts of two places are no more than a byte holds
pub two_counts_fit : {c : List ℕ} {m : ℕ} → Counted c m → (i j : ℕ) → Fits w8 (get_or c i 0 + get_or c j 0)
two_counts_fit C i j = record { fits = omega (arith, C.small i, C.small j) }

-- ---- the vote of a cell
module _ (c : List ℕ) (m : ℕ) where
  abbrev at : ℕ → ℕ
  at z = get_or c z 0

  pub voted_first : 2 ≤ length c → ltb ((m * 2 - 1) / 2) (get_or c 0 0 + get_or c 1 0) ≡ voted_at c m 0
  voted_first h =
      let e : at 0 + at 1 ≡ at 0 + (at 1 + 0) = omega arith in
      ap (ltb ((m * 2 - 1) / 2)) e ∙ sym (ap (λ (s : List ℕ). ltb ((m * length s - 1) / 2) (total at s)) (around-first (length c) h))

  pub voted_inside : (i : ℕ) → i + 2 < length c → ltb ((m * 3 - 1) / 2) (get_or c i 0 + get_or c (i + 1) 0 + get_or c (i + 2) 0) ≡ voted_at c m (i + 1)
  voted_inside i h =
      let e : at i + at (i + 1) + at (i + 2) ≡ at i + (at (i + 1) + (at (i + 2) + 0)) = omega arith in
      ap (ltb ((m * 3 - 1) / 2)) e ∙ sym (ap (λ (s : List ℕ). ltb ((m * length s - 1) / 2) (total at s)) (around-inside (length c) i h))

  pub voted_last : (i : ℕ) → i + 2 ≡ length c → ltb ((m * 2 - 1) / 2) (get_or c i 0 + get_or c (i + 1) 0) ≡ voted_at c m (i + 1)
  voted_last i h =
      let e : at i + at (i + 1) ≡ at i + (at (i + 1) + 0) = omega arith in
      ap (ltb ((m * 2 - 1) / 2)) e ∙ sym (ap (λ (s : List ℕ). ltb ((m * length s - 1) / 2) (total at s)) (around-last (length c) i h))

-- ---- the places from a on
row_none : (a k : ℕ) → in_row a 0 k ≡ false
row_none a k = go (ltb k a) refl
  where
    go : (t : Bool) → ltb k a ≡ t → not t && ltb k (a + 0) ≡ false
    go true e = refl
    go false e = le-ltb k (a + 0) (omega (arith, ltb-false k a e))

row_more : (a i k : ℕ) → in_row a (i + 1) k ≡ eqb k (a + i) || in_row a i k
row_more a i k = go (ltb k a) refl
  where
    next : a + (i + 1) ≡ a + i + 1
    next = omega arith

    go : (t : Bool) → ltb k a ≡ t → not t && ltb k (a + (i + 1)) ≡ eqb k (a + i) || (not t && ltb k (a + i))
    go true e = sym (ap (λ (u : Bool). u || false) (ne_eqb k (a + i) (λ q. apart q (ltb-true k a e))))
      where
        apart : k ≡ a + i → k < a → ⊥
        apart q h = omega arith
    go false e = ap (ltb k) next ∙ ltb-more k (a + i)

-- the first place by itself
row_front : (a i k : ℕ) → in_row a (i + 1) k ≡ in_row (a + 1) i k || eqb k a
row_front a i k = go (ltb k a) (eqb k a) refl refl
  where
    next : a + 1 + i ≡ a + (i + 1)
    next = omega arith

    go : (s t : Bool) → ltb k a ≡ s → eqb k a ≡ t → not s && ltb k (a + (i + 1)) ≡ in_row (a + 1) i k || t
    go true true e q = absurd (apart (ltb-true k a e) (eqb-true k a q))
      where
        apart : k < a → k ≡ a → ⊥
        apart h l = omega arith
    go true false e q = sym (ap (λ (u : Bool). (not u && ltb k (a + 1 + i)) || false) (lt-ltb k (a + 1) (omega (arith, ltb-true k a e))))
    go false true e q =
        lt-ltb k (a + (i + 1)) (omega (arith, eqb-true k a q)) ∙ sym (ap (λ (u : Bool). (not u && ltb k (a + 1 + i)) || true) (lt-ltb k (a + 1) (omega (arith, eqb-true k a q))))
    go false false e q =
        ap (ltb k) (sym next) ∙ sym (or_none (ltb k (a + 1 + i)))
        ∙ sym (ap (λ (u : Bool). (not u && ltb k (a + 1 + i)) || false) (le-ltb k (a + 1) (past (ltb-false k a e) (eqb-false k a q))))
      where
        past : a ≤ k → (k ≡ a → ⊥) → a + 1 ≤ k
        past h l = omega arith

        or_none : (t : Bool) → t || false ≡ t
        or_none true = refl
        or_none false = refl

-- ---- the stores, of any votes f
module _ (f : ℕ → Bool) where
  pub votes-none : (b : ℕ) (out : List Bool) → Stored false (in_row b 0) f out out
  votes-none b out = stored_none false f (in_row b 0) out (row_none b)

  pub votes-more : (b i : ℕ) {out₀ out : List Bool} (v : Bool) → b + i < length out₀ → Stored false (in_row b i) f out₀ out → v ≡ f (b + i) → Stored false (in_row b (i + 1)) f out₀ (set out (b + i) v)
  votes-more b i {out₀} {out} v h S e =
      stored_then false f (in_row b i) (λ k. eqb k (b + i)) (in_row b (i + 1)) S (stored_one false f out (b + i) v (omega (arith, S.kept)) e) (row_more b i)

  -- the first place was stored before all others
  votes-all : (a i : ℕ) {out out' : List Bool} (v : Bool) → a < length out → v ≡ f a → Stored false (in_row (a + 1) i) f (set out a v) out' → Stored false (in_row a (i + 1)) f out out'
  votes-all a i {out} v h e S = stored_then false f (λ k. eqb k a) (in_row (a + 1) i) (in_row a (i + 1)) (stored_one false f out a v h e) S (row_front a i)

  pub votes-inside : (b i n : ℕ) (out : List Bool) {out' : List Bool} → i ≡ n → Stored false (in_row b i) f out out' → out' ≡ set_row b n f out
  votes-inside b i n out {out'} e S = stored_table false f (in_row b n) (subst (λ (k : ℕ). Stored false (in_row b k) f out out') e S)

  -- the last place is stored: the row is set
  pub votes_table : (a n : ℕ) (out : List Bool) {out' : List Bool} (v u : Bool) → 2 ≤ n → a + n ≤ length out → v ≡ f a → u ≡ f (a + 1 + (n - 2)) → out' ≡ set_row (a + 1) (n - 2) f (set out a v)
      → set out' (a + 1 + (n - 2)) u ≡ set_row a n f out
  votes_table a n out {out'} v u two h e d S =
      votes-inside a (n - 2 + 1 + 1) n out (omega arith)
      (votes-all a (n - 2 + 1) v (omega arith) e
      (votes-more (a + 1) (n - 2) u (omega (arith, length-set out a v)) (table_stored false f (in_row (a + 1) (n - 2)) (set out a v) out' S) d))
