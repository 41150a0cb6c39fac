-- The places of the ring and the list of pairs that it holds: its first pair, its last, and a pair stored behind the last.
-- Assumes nothing.
use mathlib.Core.Path.{◌≡◌, refl, sym, ap, ◌∙◌}
use mathlib.Core.List.{List, [], ◌∷◌, ◌++◌}
use Prim.Native.Nat.{ℕ, zero, suc, ◌+◌, ◌-◌, ◌%◌, ◌≤◌, ◌<◌}
use native.Mathlib.Nat.{add-zero, mod-eq_of_lt}
use native.Mathlib.Numerals.{add-one}
use native.Mathlib.Decide.{dec_lt}
use native.Mathlib.Omega.{arith}
use borrow.Author.Tests.{lt-ltb, le-ltb}
use lib.ListN.{get_or, length, set}
use lib.Seq.{get_or-set_same, get_or-set_other}
use Rattle.numbers.proofs.Tests.{cond_yes, cond_no}
use Rattle.min_max_ring.specs.declared.Pair.{Pair}
use Rattle.min_max_ring.specs.Ring.{ring_place, no_pair, items_from}

-- once round is the remainder
pub place_mod : (k : ℕ) → k < 130 → ring_place k ≡ k % 65
unfolding ring_place
place_mod k h = go (dec_lt k 65)
  where
    go : Dec (k < 65) → ring_place k ≡ k % 65
    go (yes l) = cond_yes _ k (k - 65) (lt-ltb k 65 l) ∙ sym (mod-eq_of_lt l)
    go (no l) = let b : 65 ≤ k = omega arith in cond_no _ k (k - 65) (le-ltb k 65 b) ∙ omega arith

pub length_items : (ps : List Pair) (s n : ℕ) → length (items_from ps s n) ≡ n
unfolding items_from
length_items ps s zero = refl
length_items ps s (suc n) = ap suc (length_items ps (s + 1) n)

-- a start counts by its remainder alone
pub items_turned : (ps : List Pair) (a b n : ℕ) → a % 65 ≡ b % 65 → items_from ps a n ≡ items_from ps b n
unfolding items_from
items_turned ps a b zero h = refl
items_turned ps a b (suc n) h = let e : (a + 1) % 65 ≡ (b + 1) % 65 = omega arith in rw (h, items_turned ps (a + 1) (b + 1) n e) refl

-- the first pair, and the others
pub items_front : (ps : List Pair) (s n : ℕ) → s < 65 → 0 < n → items_from ps s n ≡ get_or ps s no_pair ∷ items_from ps (s + 1) (n - 1)
unfolding items_from
items_front ps s zero b h = absurd (omega arith)
items_front ps s (suc n) b h = let e : suc n - 1 ≡ n = omega arith in rw (mod-eq_of_lt b, e) refl

items_more : (ps : List Pair) (s n : ℕ) → items_from ps s (suc n) ≡ items_from ps s n ++ (get_or ps ((s + n) % 65) no_pair ∷ [])
unfolding items_from
items_more ps s zero = rw add-zero refl
items_more ps s (suc n) = let e : s + 1 + n ≡ s + suc n = omega arith in ap (λ (t : List Pair). get_or ps (s % 65) no_pair ∷ t) (rw e at (items_more ps (s + 1) n))

-- the last pair, and those before it
pub items_back : (ps : List Pair) (s n : ℕ) → 0 < n → items_from ps s n ≡ items_from ps s (n - 1) ++ (get_or ps ((s + n - 1) % 65) no_pair ∷ [])
items_back ps s n h =
    let e : suc (n - 1) ≡ n = omega arith in
    let f : s + (n - 1) ≡ s + n - 1 = omega arith in
    rw (e, f) at (items_more ps s (n - 1))

-- a store at a place that none of the pairs has
items_elsewhere : (ps : List Pair) (s n q : ℕ) (p : Pair) → ((k : ℕ) → k < n → (s + k) % 65 ≡ q → ⊥) → items_from (set ps q p) s n ≡ items_from ps s n
unfolding items_from
items_elsewhere ps s zero q p h = refl
items_elsewhere ps s (suc n) q p h =
    let here : s % 65 ≡ q → ⊥ = λ e. h 0 (omega arith) (ap (λ (i : ℕ). i % 65) (add-zero s) ∙ e) in
    let rest : (k : ℕ) → k < n → (s + 1 + k) % 65 ≡ q → ⊥ = λ k b e. h (suc k) (omega arith) (ap (λ (i : ℕ). i % 65) (omega arith) ∙ e) in
    rw (get_or-set_other ps q (s % 65) p no_pair here, items_elsewhere ps (s + 1) n q p rest) refl

-- a pair stored behind the last
pub items_pushed : (ps : List Pair) (s n : ℕ) (p : Pair) → length ps ≡ 65 → n < 65 → items_from (set ps ((s + n) % 65) p) s (n + 1) ≡ items_from ps s n ++ (p ∷ [])
items_pushed ps s n p l h =
    let q = (s + n) % 65 in
    let free : (k : ℕ) → k < n → (s + k) % 65 ≡ (s + n) % 65 → ⊥ = λ k b e. omega arith in
    let b : (s + n) % 65 < length ps = omega arith in
    rw (add-one, items_more, items_elsewhere ps s n q p free, get_or-set_same ps q p no_pair b) refl
