-- The pairs of the ring over a line, as a list: each comes, in the order, before all cells from the cell after the pair before it on.
-- The steps of MINLIST keep this, and it makes the first pair the first of its window.
-- Assumes nothing.
use mathlib.Core.Path.{◌≡◌, sym, ap, ◌∙◌, subst}
use mathlib.Core.Bool.{Bool}
use mathlib.Core.List.{List, [], ◌∷◌, ◌++◌}
use Prim.Native.Nat.{ℕ, ◌+◌, ◌-◌, ◌≤◌, ◌<◌}
use native.Mathlib.Omega.{arith}
use borrow.Author.Count.{below_more}
use lib.Dec.{T}
use lib.IntN.{ℤ, pos}
use lib.ListN.{length, get_or}
use Rattle.numbers.specs.Order.{Total, extreme}
use Rattle.numbers.specs.Windows.{window_of}
use Rattle.numbers.proofs.Extreme.{extreme_unique_at}
use Rattle.numbers.proofs.Window.{length-window, get_d_window}
use Rattle.min_max_ring.specs.declared.Pair.{Pair}

-- x comes before the cells from a up to b (b not included)
abbrev pub Before : (ℤ → ℤ → Bool) → List ℤ → ℤ → ℕ → ℕ → Type 0
Before le line x a b = (j : ℕ) → a ≤ j → j < b → T (le x (get_or line j (pos 0)))

-- p is the cell len before its death, one of those from lo up to i
pub record Lies (line : List ℤ) (len i lo : ℕ) (p : Pair) : Type 0 where
  pub low : lo + len ≤ p.death
  pub high : p.death < i + len
  pub is : p.val ≡ get_or line (p.death - len) (pos 0)

-- and it comes before all of them
pub record Held (le : ℤ → ℤ → Bool) (line : List ℤ) (len i lo : ℕ) (p : Pair) : Type 0 where
  pub lies : Lies line len i lo p
  pub first : Before le line p.val lo i

-- each pair is held from the cell after the pair before it, the first of them from lo; End holds of the cell after the last
unfoldable pub Chain : (ℤ → ℤ → Bool) → List ℤ → ℕ → (ℕ → Type 0) → ℕ → ℕ → List Pair → Type 0
Chain le line len End i lo [] = End lo
Chain le line len End i lo (p ∷ ps) = Held le line len i lo p × Chain le line len End i (p.death - len + 1) ps

-- no cell up to i is behind the last pair
abbrev pub Covered : (ℤ → ℤ → Bool) → List ℤ → ℕ → ℕ → ℕ → List Pair → Type 0
Covered le line len i lo ps = Chain le line len (λ m. i ≤ m) i lo ps

-- v comes before the cells behind the last pair
abbrev pub Open : (ℤ → ℤ → Bool) → List ℤ → ℕ → ℤ → ℕ → ℕ → List Pair → Type 0
Open le line len v i lo ps = Chain le line len (λ m. Before le line v m i) i lo ps

before_more : (le : ℤ → ℤ → Bool) (line : List ℤ) (x : ℤ) (a i : ℕ) → Before le line x a i → T (le x (get_or line i (pos 0))) → Before le line x a (i + 1)
before_more le line x a i h t j b l = below_more (λ k. a ≤ k → T (le x (get_or line k (pos 0)))) i (λ k m c. h k c m) (λ c. t) j l b

module _ (le : ℤ → ℤ → Bool) (line : List ℤ) (len : ℕ) where
  pub chain_open : (v : ℤ) (i lo : ℕ) (ps : List Pair) → Covered le line len i lo ps → Open le line len v i lo ps
  unfolding Chain
  chain_open v i lo [] h = λ j a b. absurd (omega arith)
  chain_open v i lo (p ∷ ps) h = (h.0, chain_open v i (p.death - len + 1) ps h.1)

  -- a pair takes a cell, so the cells bound the pairs
  pub chain_room : (End : ℕ → Type 0) (i lo : ℕ) (ps : List Pair) → lo ≤ i → Chain le line len End i lo ps → lo + length ps ≤ i
  unfolding Chain
  chain_room End i lo [] b h = omega arith
  chain_room End i lo (p ∷ ps) b h = let g = h.0 in omega (arith, chain_room End i (p.death - len + 1) ps (omega arith) h.1)

  pub chain_some : (i lo : ℕ) (ps : List Pair) → lo < i → Covered le line len i lo ps → 0 < length ps
  unfolding Chain
  chain_some i lo [] b h = absurd (omega arith)
  chain_some i lo (p ∷ ps) b h = omega arith

  -- the first pair's cell leaves the window
  pub chain_expired : (End : ℕ → Type 0) (i : ℕ) (p : Pair) (ps : List Pair) → p.death ≡ i
      → Chain le line len End i (i - len) (p ∷ ps) → Chain le line len End i (i + 1 - len) ps
  unfolding Chain
  chain_expired End i p ps e h =
      let g = h.0 in
      let q : p.death - len + 1 ≡ i + 1 - len = omega arith in
      subst (λ (m : ℕ). Chain le line len End i m ps) q h.1

  -- it stays
  pub chain_kept : (End : ℕ → Type 0) (i : ℕ) (p : Pair) (ps : List Pair) → (p.death ≡ i → ⊥)
      → Chain le line len End i (i - len) (p ∷ ps) → Chain le line len End i (i + 1 - len) (p ∷ ps)
  unfolding Chain
  chain_kept End i p ps n h =
      let g = h.0 in
      let l = g.lies in
      (record { lies = record { low = omega arith; high = l.high; is = l.is }; first = λ j x y. g.first j (omega arith) y }, h.1)

  chain_last : (End : ℕ → Type 0) (i lo : ℕ) (ps : List Pair) (q : Pair) → Chain le line len End i lo (ps ++ (q ∷ [])) → Lies line len i lo q
  unfolding Chain
  chain_last End i lo [] q h = h.0.lies
  chain_last End i lo (p ∷ ps) q h =
      let g = h.0 in
      let r = chain_last End i (p.death - len + 1) ps q h.1 in
      record { low = omega arith; high = r.high; is = r.is }

  -- the last pair is the last cell
  pub chain_last-cell : (i lo : ℕ) (ps : List Pair) (q : Pair) → 0 < i → Covered le line len i lo (ps ++ (q ∷ [])) → q.val ≡ get_or line (i - 1) (pos 0)
  unfolding Chain
  chain_last-cell i lo [] q b h =
      let g = h.0 in
      let e : q.death - len ≡ i - 1 = omega arith in
      g.lies.is ∙ ap (λ (k : ℕ). get_or line k (pos 0)) e
  chain_last-cell i lo (p ∷ ps) q b h = chain_last-cell i (p.death - len + 1) ps q b h.1

module _ {le : ℤ → ℤ → Bool} (O : Total le) (line : List ℤ) (len : ℕ) where
  -- the last pair does not come before v
  pub chain_trimmed : (v : ℤ) (i lo : ℕ) (ps : List Pair) (q : Pair) → T (le v q.val) → Open le line len v i lo (ps ++ (q ∷ [])) → Open le line len v i lo ps
  unfolding Chain
  chain_trimmed v i lo [] q t h = λ j a b. O.chain v q.val (get_or line j (pos 0)) t (h.0.first j a b)
  chain_trimmed v i lo (p ∷ ps) q t h = (h.0, chain_trimmed v i (p.death - len + 1) ps q t h.1)

  -- the first pair of the last len cells is the first of the window
  pub chain_answer : (k : ℕ) (p : Pair) (ps : List Pair) → k + len ≤ length line → Covered le line len (k + len) k (p ∷ ps) → p.val ≡ extreme le (pos 0) (window_of line k len)
  unfolding Chain
  chain_answer k p ps b h =
      let g = h.0 in
      let n = length-window line k len b in
      let at = p.death - len - k in
      let m : k + at ≡ p.death - len = omega arith in
      extreme_unique_at le O (pos 0) p.val (window_of line k len) at (omega arith)
      (g.lies.is ∙ ap (λ (z : ℕ). get_or line z (pos 0)) (sym m) ∙ sym (get_d_window line k len at (pos 0) b (omega arith)))
      (λ j l. subst (λ (z : ℤ). T (le p.val z)) (sym (get_d_window line k len j (pos 0) b (omega arith))) (g.first (k + j) (omega arith) (omega arith)))

  -- ---- the cell i, of level v, comes in
  module _ (v : ℤ) (i : ℕ) (is : v ≡ get_or line i (pos 0)) where
    abbrev pub new : Pair
    new = record { val = v; death = i + len }

    held_more : (lo : ℕ) (p : Pair) → T (le p.val v) → Held le line len i lo p → Held le line len (i + 1) lo p
    held_more lo p t g = record {
      lies = record { low = g.lies.low; high = omega arith; is = g.lies.is };
      first = before_more le line p.val lo i g.first (subst (λ (z : ℤ). T (le p.val z)) is t);
    }

    -- it is the only pair
    pub chain_alone : (lo : ℕ) → lo ≤ i → Before le line v lo i → Covered le line len (i + 1) lo (new ∷ [])
    unfolding Chain
    chain_alone lo b h =
        let at : i ≡ i + len - len = omega arith in (
          record {
            lies = record { low = omega arith; high = omega arith; is = is ∙ ap (λ (k : ℕ). get_or line k (pos 0)) at };
            first = before_more le line v lo i h (subst (λ (z : ℤ). T (le v z)) is (O.itself v));
          },
          omega arith,
        )

    -- it comes before the first pair
    pub chain_replaced : (lo : ℕ) (p : Pair) (ps : List Pair) → lo ≤ i → T (le v p.val) → Covered le line len i lo (p ∷ ps) → Covered le line len (i + 1) lo (new ∷ [])
    unfolding Chain
    chain_replaced lo p ps b t h = chain_alone lo b (λ j x y. O.chain v p.val (get_or line j (pos 0)) t (h.0.first j x y))

    -- it goes behind the last pair q, which comes before it
    pub chain_pushed : (lo : ℕ) (ps : List Pair) (q : Pair) → T (le q.val v) → Open le line len v i lo (ps ++ (q ∷ []))
        → Covered le line len (i + 1) lo ((ps ++ (q ∷ [])) ++ (new ∷ []))
    unfolding Chain
    chain_pushed lo [] q t h = let g = h.0 in (held_more lo q t g, chain_alone (q.death - len + 1) (omega arith) h.1)
    chain_pushed lo (p ∷ ps) q t h =
        let g = h.0 in
        let r = chain_last le line len (λ m. Before le line v m i) i (p.death - len + 1) ps q h.1 in
        let pq : T (le p.val q.val) = subst (λ (z : ℤ). T (le p.val z)) (sym r.is) (g.first (q.death - len) (omega arith) (omega arith)) in
        (held_more lo p (O.chain p.val q.val v pq t) g, chain_pushed (p.death - len + 1) ps q t h.1)
