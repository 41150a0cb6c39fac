-- Neighbouring places of a list, over any element: the n places from a place on, a part of as many cells put back there, and, where those places are a lane, the grid
-- with that lane written. Assumes nothing.
use mathlib.Core.Path.{◌≡◌, refl, sym, ap, ◌∙◌}
use mathlib.Core.Bool.{Bool, true, false, ◌&&◌, ◌||◌, cond}
use mathlib.Core.List.{List, ◌++◌}
use Prim.Native.Nat.{ℕ, ◌+◌, ◌-◌, ◌*◌, ◌/◌, ◌%◌, ◌≤◌, ◌<◌}
use native.Mathlib.Nat.{le_refl, mod-lt}
use native.Mathlib.Omega.{arith}
use borrow.Author.Tests.{leb-true, leb-false, ne_eqb, le-leb, ltb-true, ltb-false, lt-ltb, eqb-true, eqb-false}
use borrow.Rule.Slice.PartMut.{put_mid, post_of, mid_len, same_len_mid}
use lib.Dec.{leb, ltb, eqb}
use lib.ListN.{length, get_or, take, drop, get_or-append}
use lib.Seq.{get_or-take, get_or-drop, get_or-append-add, length-take-le}
use Rattle.numbers.proofs.Stored.{Stored, stored_table}
use Rattle.numbers.proofs.Tabulate.{tabulate_agree}
use Rattle.numbers.proofs.Tests.{and_true, cond_no, ltb-more}
use Rattle.lanes.specs.Lanes.{lane_of, lane_base, with_lane}
use Rattle.lanes.proofs.Cells.{lane_of_cell, cell_of_lane, base_neighbours}

-- ---- the n places from at on
abbrev pub on_row : ℕ → ℕ → ℕ → Bool
on_row at n k = leb at k && ltb k (at + n)

pub row_yes : (at n k : ℕ) → at ≤ k → k < at + n → on_row at n k ≡ true
row_yes at n k h l = (λ j. le-leb at k h j && lt-ltb k (at + n) l j)

pub row_in : (at n k : ℕ) → on_row at n k ≡ true → (at ≤ k) × (k < at + n)
row_in at n k e = let p = and_true (leb at k) (ltb k (at + n)) e in (leb-true at k p.0, ltb-true k (at + n) p.1)

pub row_no : (at n k : ℕ) → (at ≤ k → k < at + n → ⊥) → on_row at n k ≡ false
row_no at n k h = go (on_row at n k) refl
  where
    go : (t : Bool) → on_row at n k ≡ t → t ≡ false
    go true e = absurd (h (row_in at n k e).0 (row_in at n k e).1)
    go false e = refl

-- one place more
pub row_empty : (at k : ℕ) → on_row at 0 k ≡ false
row_empty at k = row_no at 0 k (λ h l. omega arith)

pub row_longer : (at n k : ℕ) → on_row at (n + 1) k ≡ eqb k (at + n) || on_row at n k
row_longer at n k = ap (λ x. leb at k && ltb k x) (one at n) ∙ ap (λ t. leb at k && t) (ltb-more k (at + n)) ∙ go (leb at k) refl
  where
    one : (at n : ℕ) → at + (n + 1) ≡ at + n + 1
    one at n = omega arith

    go : (t : Bool) → leb at k ≡ t → t && (eqb k (at + n) || ltb k (at + n)) ≡ eqb k (at + n) || (t && ltb k (at + n))
    go true e = refl
    go false e = ap (λ t. t || false) (sym (ne_eqb k (at + n) (λ z. omega (arith, leb-false at k e))))

-- ---- a part put back: the places from a on hold it
pub part_put : {A : Type 0} (d : A) (a n : ℕ) (g part : List A) → a + n ≤ length g → length part ≡ n → Stored d (on_row a n) (λ k. get_or part (k - a) d) g (put_mid a (a + n - a) g part)
part_put d a n g part room long = record {
  kept = same_len_mid a (a + n - a) g part (long ∙ sym (mid_len a (a + n) g room ∙ omega arith));
  cells = λ k b. at k (ltb k a) refl (ltb k (a + n)) refl;
}
  where
    front : length (take a g) ≡ a
    front = length-take-le a g (omega arith)

    at : (k : ℕ) (t : Bool) → ltb k a ≡ t → (u : Bool) → ltb k (a + n) ≡ u → get_or (put_mid a (a + n - a) g part) k d ≡ cond (on_row a n k) (get_or part (k - a) d) (get_or g k d)
    at k true x u y =
        let h = ltb-true k a x in
        get_or-append (take a g) (part ++ post_of a (a + n - a) g) d k (omega (arith, front)) ∙ get_or-take a g k d h
        ∙ sym (cond_no (on_row a n k) _ _ (row_no a n k (λ p q. omega arith)))
    at k false x true y =
        let lo = ltb-false k a x in
        let hi = ltb-true k (a + n) y in
        let e : k ≡ length (take a g) + (k - a) = omega (arith, front) in
        ap (λ (j : ℕ). get_or (put_mid a (a + n - a) g part) j d) e
        ∙ get_or-append-add (take a g) (part ++ post_of a (a + n - a) g) (k - a) d
        ∙ get_or-append part (post_of a (a + n - a) g) d (k - a) (omega arith)
        ∙ sym (ap (λ t. cond t (get_or part (k - a) d) (get_or g k d)) (row_yes a n k lo hi))
    at k false x false y =
        let hi = ltb-false k (a + n) y in
        let e : k ≡ length (take a g) + (length part + (k - (a + n))) = omega (arith, front) in
        let f : a + (a + n - a + (k - (a + n))) ≡ k = omega arith in
        ap (λ (j : ℕ). get_or (put_mid a (a + n - a) g part) j d) e
        ∙ get_or-append-add (take a g) (part ++ post_of a (a + n - a) g) (length part + (k - (a + n))) d
        ∙ get_or-append-add part (post_of a (a + n - a) g) (k - (a + n)) d
        ∙ get_or-drop (a + n - a) (drop a g) (k - (a + n)) d
        ∙ get_or-drop a g (a + n - a + (k - (a + n))) d
        ∙ ap (λ (j : ℕ). get_or g j d) f
        ∙ sym (cond_no (on_row a n k) _ _ (row_no a n k (λ p q. omega arith)))

-- ---- a lane of neighbouring cells
pub row_written : {A : Type 0} (d : A) {n at : ℕ} (l : ℕ) (g row : List A) → 0 < n → at ≡ l * n → at + n ≤ length g → length row ≡ n → put_mid at (at + n - at) g row ≡ with_lane d n 1 l row g
unfolding with_lane
row_written d {n} {at} l g row pn e room long =
    stored_table d (λ k. get_or row (k - at) d) (on_row at n) (part_put d at n g row room long)
    ∙ tabulate_agree (λ k. cond (on_row at n k) (get_or row (k - at) d) (get_or g k d)) _ 0 (length g) (λ k b. same (0 + k) (eqb (lane_of n 1 (0 + k)) l) refl)
  where
    first : at ≡ lane_base n 1 l
    first = e ∙ sym (base_neighbours n l)

    -- the row has the places of the lane, and cell k / 1 % n of the lane is cell k - at of the row
    same : (k : ℕ) (t : Bool) → eqb (lane_of n 1 k) l ≡ t → cond (on_row at n k) (get_or row (k - at) d) (get_or g k d) ≡ cond (eqb (lane_of n 1 k) l) (get_or row (k / 1 % n) d) (get_or g k d)
    same k true t =
        let i = k / 1 % n in
        let b : i < n = mod-lt (k / 1) pn in
        let h : k ≡ lane_base n 1 l + i * 1 = cell_of_lane n 1 pn (le_refl 1) k ∙ ap (λ m. lane_base n 1 m + i * 1) (eqb-true (lane_of n 1 k) l t) in
        let p : k - at ≡ i = omega (arith, first) in
        (λ j. cond (row_yes at n k (omega (arith, first)) (omega (arith, first)) j) (get_or row (p j) d) (get_or g k d))
        ∙ ap (λ u. cond u (get_or row i d) (get_or g k d)) (sym t)
    same k false t =
        ap (λ u. cond u (get_or row (k - at) d) (get_or g k d)) (row_no at n k (λ h b. eqb-false (lane_of n 1 k) l t (on h b)))
        ∙ ap (λ u. cond u (get_or row (k / 1 % n) d) (get_or g k d)) (sym t)
      where
        on : at ≤ k → k < at + n → lane_of n 1 k ≡ l
        on h b =
            let q : k ≡ lane_base n 1 l + (k - at) * 1 = omega (arith, first) in
            ap (lane_of n 1) q ∙ lane_of_cell n 1 pn (le_refl 1) l (k - at) (omega arith)
