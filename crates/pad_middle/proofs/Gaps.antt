-- A gap filled place by place, and a padded grid while its gaps are filled, row after row: a place before the one that was reached holds the level, or is in the middle
-- and holds what it held.
-- Assumes nothing.
use mathlib.Core.Path.{◌≡◌, refl, sym, ap, subst, ◌∙◌}
use mathlib.Core.Bool.{Bool, true, false, ◌&&◌, ◌||◌, not, cond, true≢false}
use mathlib.Core.List.{List}
use Prim.Native.Nat.{ℕ, ◌+◌, ◌*◌, ◌≤◌, ◌<◌}
use native.Mathlib.Nat.{add-mul}
use native.Mathlib.Omega.{arith}
use borrow.Author.Tests.{leb-true, leb-false, le-leb, ne_eqb, ltb-true, ltb-false, lt-ltb, le-ltb}
use lib.Dec.{leb, ltb, eqb}
use lib.IntN.{ℤ, pos}
use lib.ListN.{length, get_or, set}
use Rattle.numbers.proofs.Stored.{Stored, stored_none, stored_one, stored_then, stored_over, stored_table, table_stored}
use Rattle.numbers.proofs.Tabulate.{tabulate_agree}
use Rattle.numbers.proofs.Tests.{ltb-more, and_true}
use Rattle.array_spec.specs.Grid.{cell_count, coordinate}
use Rattle.pad_spec.specs.Pads.{middle_from}
use Rattle.pad_spec.specs.Frame.{Framed, target_of, row_length}
use Rattle.lanes.proofs.Part.{row_yes}
use Rattle.pad_middle.specs.Around.{gap_set, around_set}
use Rattle.pad_middle.proofs.Copied.{row_start_lem, row_middle}
use Rattle.pad_middle.proofs.Rising.{from_row, to_row, past_row}
use Rattle.pad_middle.proofs.Targets.{source_of, target_lt, target_middle, source_target, source_lt}

-- ---- one gap
abbrev in_gap : ℕ → ℕ → ℕ → Bool
in_gap from to k = leb from k && ltb k to

pub record GapStored (level : ℤ) (from : ℕ) (g₀ g : List ℤ) (k : ℕ) : Type 0 where
  pub stored : Stored (pos 0) (in_gap from k) (λ i. level) g₀ g

pub gap_none : (level : ℤ) (from : ℕ) (g : List ℤ) → GapStored level from g g from
gap_none level from g = record { stored = stored_none (pos 0) (λ i. level) (in_gap from from) g (λ i. none i (leb from i) refl) }
  where
    none : (i : ℕ) (t : Bool) → leb from i ≡ t → t && ltb i from ≡ false
    none i true e = le-ltb i from (leb-true from i e)
    none i false e = refl

pub gap_more : {level : ℤ} {from k : ℕ} {g₀ g : List ℤ} (v : ℤ) → from ≤ k → k < length g₀ → v ≡ level → GapStored level from g₀ g k → GapStored level from g₀ (set g k v) (k + 1)
gap_more {level} {from} {k} {g₀} {g} v h b e S = record {
  stored =
      stored_then (pos 0) (λ i. level) (in_gap from k) (λ i. eqb i k) (in_gap from (k + 1)) S.stored (stored_one (pos 0) (λ i. level) g k v (omega (arith, S.stored.kept)) e)
      (λ i. ap (λ t. leb from i && t) (ltb-more i k) ∙ go i (leb from i) refl);
}
  where
    go : (i : ℕ) (t : Bool) → leb from i ≡ t → t && (eqb i k || ltb i k) ≡ eqb i k || (t && ltb i k)
    go i true q = refl
    go i false q = ap (λ t. t || false) (sym (ne_eqb i k (λ z. omega (arith, leb-false from i q))))

pub gap_all : {level : ℤ} {from k : ℕ} {g₀ g : List ℤ} (to : ℕ) → (from < k → k ≤ to) → to ≤ k → GapStored level from g₀ g k → g ≡ gap_set level from to g₀
unfolding gap_set
gap_all {level} {from} {k} {g₀} {g} to h l S =
    stored_table (pos 0) (λ i. level) (in_gap from k) S.stored
    ∙ tabulate_agree _ _ 0 (length g₀) (λ i b. ap (λ t. cond t level (get_or g₀ (0 + i) (pos 0))) (same (0 + i) (leb from (0 + i)) refl (ltb (0 + i) k) refl))
  where
    same : (i : ℕ) (s : Bool) → leb from i ≡ s → (t : Bool) → ltb i k ≡ t → s && t ≡ s && ltb i to
    same i false x t y = refl
    same i true x false y = sym (le-ltb i to (omega (arith, ltb-false i k y)))
    same i true x true y = sym (lt-ltb i to (omega (arith, ltb-true i k y, h (omega (arith, leb-true from i x, ltb-true i k y)))))

-- ---- the gaps, row after row
module _ (level : ℤ) (ns lefts ps : List ℕ) where
  abbrev middle : ℕ → Bool
  middle k = middle_from ns lefts 0 (coordinate ps k)

  -- the places beside the middle, before place done
  abbrev beside_to : ℕ → ℕ → Bool
  beside_to done k = not (middle k) && ltb k done

  -- they hold the level, and the places of the middle before done are those of the first rows
  pub record AroundTo (row done : ℕ) (out₀ out : List ℤ) : Type 0 where
    pub stored : Stored (pos 0) (beside_to done) (λ i. level) out₀ out
    pub count : length out₀ ≡ cell_count ps
    pub low : (k : ℕ) → k < cell_count ps → middle k ≡ true → source_of ns lefts ps k < row * row_length ns → k < done
    pub high : (k : ℕ) → k < cell_count ps → middle k ≡ true → row * row_length ns ≤ source_of ns lefts ps k → done ≤ k

  pub around-none : {out : List ℤ} → length out ≡ cell_count ps → AroundTo 0 0 out out
  around-none {out} w = record {
    stored = stored_none (pos 0) (λ i. level) (beside_to 0) out (λ k. none (not (middle k)) (le-ltb k 0 (omega arith)));
    count = w;
    low = λ k b m s. absurd (omega arith);
    high = λ k b m s. omega arith;
  }
    where
      none : (s : Bool) {t : Bool} → t ≡ false → s && t ≡ false
      none true e = e
      none false e = refl

  module _ {row done : ℕ} {out₀ out new : List ℤ} (A : AroundTo row done out₀ out) (to : ℕ) (e : new ≡ gap_set level done to out) where
    filled : Stored (pos 0) (in_gap done to) (λ i. level) out new
    unfolding gap_set
    filled = table_stored (pos 0) (λ i. level) (in_gap done to) out new e

    in_gap_lem : (k : ℕ) → in_gap done to k ≡ true → (done ≤ k) × (k < to)
    in_gap_lem k q = let p = and_true (leb done k) (ltb k to) q in (leb-true done k p.0, ltb-true k to p.1)

    -- off the gap, from place done on
    past_gap : (k : ℕ) → in_gap done to k ≡ false → done ≤ k → to ≤ k
    past_gap k q h = go (ltb k to) refl
      where
        go : (t : Bool) → ltb k to ≡ t → to ≤ k
        go true p = absurd (true≢false (sym (λ i. le-leb done k h i && p i) ∙ q))
        go false p = ltb-false k to p

    -- the last gap: all rows are passed
    pub around_end : {z : ℤ} → Framed ns lefts ps → cell_count ns ≤ row * row_length ns → to ≡ length out → level ≡ z → new ≡ around_set z ns lefts ps out₀
    unfolding around_set
    around_end {z} F h w q =
        stored_table (pos 0) (λ i. level) (λ k. not (middle k))
        (stored_over (pos 0) (beside_to done) (in_gap done to) (λ k. not (middle k)) (λ i. level) (λ i. level) A.stored filled
        (λ k b g. (on k b g (middle k) refl, refl)) (λ k b g. off k b g (middle k) refl))
        ∙ tabulate_agree _ _ 0 (length out₀) (λ k b. turn level (get_or out₀ (0 + k) (pos 0)) (middle (0 + k)) ∙ ap (cond (middle (0 + k)) (get_or out₀ (0 + k) (pos 0))) q)
      where
        turn : (x y : ℤ) (t : Bool) → cond (not t) x y ≡ cond t y x
        turn x y true = refl
        turn x y false = refl

        on : (k : ℕ) → k < length out₀ → in_gap done to k ≡ true → (t : Bool) → middle k ≡ t → not t ≡ true
        on k b g true m =
            let l : k < cell_count ps = omega (arith, A.count) in
            absurd (omega (arith, (in_gap_lem k g).0, A.low k l m (omega (arith, source_lt ns lefts ps F k l m))))
        on k b g false m = refl

        off : (k : ℕ) → k < length out₀ → in_gap done to k ≡ false → (t : Bool) → middle k ≡ t → not t ≡ not t && ltb k done
        off k b g true m = refl
        off k b g false m = sym (go (ltb k done) refl)
          where
            go : (t : Bool) → ltb k done ≡ t → t ≡ true
            go true p = refl
            go false p = absurd (omega (arith, past_gap k g (ltb-false k done p), A.stored.kept))

    -- the gap before a row, and the row, whose places are in the middle
    module _ (F : Framed ns lefts ps) (b : row * row_length ns + row_length ns ≤ cell_count ns) (t : to ≡ target_of ns lefts ps (row * row_length ns)) where
      start_in : done ≤ to
      start_in =
          let f = row * row_length ns in
          let l = row_start_lem ns lefts ps F row b in
          let c = source_target ns lefts ps F f l in
          subst (λ x. done ≤ x) (sym t) (A.high (target_of ns lefts ps f) (target_lt ns lefts ps F f l) (target_middle ns lefts ps F f l) (omega (arith, c)))

      pub around-more : {n : ℕ} → n ≡ row_length ns → AroundTo (row + 1) (to + n) out₀ new
      around-more {n} q = record {
        stored =
            stored_over (pos 0) (beside_to done) (in_gap done to) (beside_to (to + n)) (λ i. level) (λ i. level) A.stored filled
            (λ k h g. (on k h g (middle k) refl, refl)) (λ k h g. off k h g (middle k) refl);
        count = A.count;
        low = λ k l m s. omega (arith, q, to_row ns lefts ps F row b t k l m (omega (arith, add-mul row 1 (row_length ns))));
        high = λ k l m s. omega (arith, q, past_row ns lefts ps F row b t k l m (omega (arith, add-mul row 1 (row_length ns))));
      }
        where
          on : (k : ℕ) → k < length out₀ → in_gap done to k ≡ true → (u : Bool) → middle k ≡ u → not u && ltb k (to + n) ≡ true
          on k h g true m = absurd (go (ltb (source_of ns lefts ps k) (row * row_length ns)) refl)
            where
              l : k < cell_count ps
              l = omega (arith, A.count)

              go : (v : Bool) → ltb (source_of ns lefts ps k) (row * row_length ns) ≡ v → ⊥
              go true p = omega (arith, (in_gap_lem k g).0, A.low k l m (ltb-true (source_of ns lefts ps k) (row * row_length ns) p))
              go false p = omega (arith, (in_gap_lem k g).1, from_row ns lefts ps F row b t k l m (ltb-false (source_of ns lefts ps k) (row * row_length ns) p))
          on k h g false m = lt-ltb k (to + n) (omega (arith, (in_gap_lem k g).1))

          off : (k : ℕ) → k < length out₀ → in_gap done to k ≡ false → (u : Bool) → middle k ≡ u → not u && ltb k (to + n) ≡ not u && ltb k done
          off k h g true m = refl
          off k h g false m = go (ltb k done) refl (ltb k (to + n)) refl
            where
              l : k < cell_count ps
              l = omega (arith, A.count)

              go : (v : Bool) → ltb k done ≡ v → (w : Bool) → ltb k (to + n) ≡ w → w ≡ v
              go true x true y = refl
              go false x false y = refl
              go true x false y = absurd (omega (arith, ltb-true k done x, ltb-false k (to + n) y, start_in))
              go false x true y =
                  let p = past_gap k g (ltb-false k done x) in
                  absurd (true≢false (sym (row_middle ns lefts ps F row b k l to t (row_yes to (row_length ns) k p (omega (arith, q, ltb-true k (to + n) y)))) ∙ m))
