-- A grid while the rims of an axis are copied, coordinate by coordinate: what is read is in the middle of the axis and never changes, so each place of a rim
-- gets the level that belongs there, its lane's own cells extended. What the loop leaves is rim_set, and both rims make every lane a padded one.
-- Assumes nothing.
use mathlib.Core.Path.{◌≡◌, refl, sym, ap, subst, ◌∙◌}
use mathlib.Core.Bool.{Bool, true, false, ◌&&◌, ◌||◌, cond}
use mathlib.Core.List.{List}
use mathlib.Core.Logic.{◌⊎◌, inl, inr}
use Prim.Native.Nat.{ℕ, ◌+◌, ◌-◌, ◌*◌, ◌/◌, ◌%◌, ◌≤◌, ◌<◌}
use native.Mathlib.Nat.{mul-le-mul, mul-pos, le_refl, mod-lt, div-lt_iff_lt-mul}
use native.Mathlib.Omega.{arith}
use borrow.Author.Tests.{lt-ltb, le-ltb, ltb-true, ltb-false, eqb-true}
use lib.Dec.{ltb, eqb}
use lib.IntN.{ℤ, pos}
use lib.ListN.{length, get_or}
use lib.Seq.{ext_get_or}
use Rattle.numbers.proofs.Stored.{Stored, stored_none, stored_table, table_stored, stored_over}
use Rattle.numbers.proofs.Tabulate.{tabulate_unique}
use Rattle.numbers.proofs.Tests.{cond_yes, cond_no}
use Rattle.lanes.specs.Lanes.{lane_of, lane_base}
use Rattle.lanes.proofs.Cells.{lane_of_cell, place_of_cell, cell_of_lane, base_of, step_le}
use Rattle.lanes.proofs.Part.{on_row, row_yes, row_no, row_empty, row_longer}
use Rattle.border.specs.Border.{along, cell_before, cell_after}
use Rattle.border.specs.declared.CellBorder.{CellBorder}
use Rattle.border.specs.declared.CellBorder.TheVariants.{Nearest, Mirror, Reflect, Wrap}
use Rattle.pad_line.specs.Line.{padded_at}
use Rattle.pad_line.proofs.Padded.{padded-inside, padded-before, padded-after}
use Rattle.pad_line.proofs.Reach.{cell-before_in, cell-after_in}
use Rattle.pad_spec.proofs.Rims.{own_of, length_own, get_d_own}
use Rattle.pad_spec.specs.Runs.{Runs, InRim, read_from, coordinate_set, extended_at, rim_set, axis_set}
use Rattle.pad_copy_axis.proofs.RunByRun.{cell_from}

-- ---- a coordinate in a rim
module _ (n : ℕ) {left p k : ℕ} (r : InRim left n p k) where
  pub rim_below : left + n ≤ p → k < p
  rim_below h = go r
    where
      go : InRim left n p k → k < p
      go (inl a) = omega arith
      go (inr a) = a.1

  pub rim_after : left ≤ k → left + n ≤ k
  rim_after h = go r
    where
      go : InRim left n p k → left + n ≤ k
      go (inl a) = absurd (omega arith)
      go (inr a) = a.0

  pub rim_off : left ≤ k → k < left + n → ⊥
  rim_off h l = omega (arith, rim_after h)

-- ---- the coordinates of the two rims
module _ (left n p : ℕ) where
  pub rim_before : (k : ℕ) → 0 ≤ k → k < 0 + left → InRim left n p k
  rim_before k lo hi = inl (omega arith)

  pub rim_beyond : (k : ℕ) → left + n ≤ k → k < left + n + (p - (left + n)) → InRim left n p k
  rim_beyond k lo hi = inr (lo, omega arith)

-- ---- the coordinate that it reads is small
pub before_small : (m : CellBorder) (n k : ℕ) → cell_before m n k ≤ n + k
before_small Nearest n k = omega arith
before_small Mirror n k = omega arith
before_small Reflect n k = omega arith
before_small Wrap n k = omega arith

pub after_small : (m : CellBorder) (n k : ℕ) → cell_after m n k ≤ n + k
after_small Nearest n k = omega arith
after_small Mirror n k = omega arith
after_small Reflect n k = omega arith
after_small Wrap n k = omega arith

-- ---- out is g with the first j coordinates from a on filled
pub record RimStored (m : CellBorder) (p s left n a : ℕ) (g₀ g : List ℤ) (j : ℕ) : Type 0 where
  pub stored : Stored (pos 0) (λ k. on_row a j (k / s % p)) (extended_at m p s left n g₀) g₀ g

pub rim_none : (m : CellBorder) (p s left n a : ℕ) (g : List ℤ) → RimStored m p s left n a g g 0
rim_none m p s left n a g = record { stored = stored_none (pos 0) (extended_at m p s left n g) (λ k. on_row a 0 (k / s % p)) g (λ k. row_empty a (k / s % p)) }

pub rim_all : {m : CellBorder} {p s left n a : ℕ} {g₀ g : List ℤ} {j : ℕ} (count : ℕ) → j ≡ count → RimStored m p s left n a g₀ g j → g ≡ rim_set m p s left n a count g₀
unfolding rim_set
rim_all {m} {p} {s} {left} {n} {a} {g₀} {g} {j} count e S =
    stored_table (pos 0) (extended_at m p s left n g₀) (λ k. on_row a count (k / s % p)) (subst (RimStored m p s left n a g₀ g) e S).stored

module _ {m : CellBorder} {p s blocks left n len : ℕ} (R : Runs m p s blocks left n len) where
  pub some_cells : 0 < p
  some_cells = omega (arith, R.room, R.some)

  -- the coordinate that a coordinate in a rim reads is in the middle
  pub read-middle : {k : ℕ} → InRim left n p k → (left ≤ read_from m left n k) × (read_from m left n k < left + n)
  read-middle {k} (inl a) =
      let e = cond_yes (ltb k left) (left + cell_before m n (left - k)) (left + cell_after m n (k + 1 - (left + n))) (lt-ltb k left a) in
      let c = cell-before_in m n left (left - k) R.some (omega arith) (omega arith) R.fills_left refl in
      (omega (arith, e), omega (arith, e, c))
  read-middle {k} (inr a) =
      let e = cond_no (ltb k left) (left + cell_before m n (left - k)) (left + cell_after m n (k + 1 - (left + n))) (le-ltb k left (omega (arith, a.0))) in
      let c = cell-after_in m n (p - (left + n)) (k + 1 - (left + n)) R.some (omega (arith, a.0)) (omega (arith, a.1)) R.fills_right refl in
      (omega (arith, e), omega (arith, e, c))

  module _ (k : ℕ) (b : k < len) where
    -- the cell of the lane through place k with coordinate c is in the grid, and has that coordinate
    abbrev pub cell_at : ℕ → ℕ
    cell_at c = lane_base p s (lane_of p s k) + c * s

    pub cell_in : (c : ℕ) → c < p → cell_at c < len
    cell_in c h =
        let d : k / (p * s) < blocks = (div-lt_iff_lt-mul (mul-pos some_cells R.apart)).1 (omega (arith, R.whole)) in
        omega (arith, base_of p s some_cells R.apart k, mod-lt k R.apart, step_le s h, step_le (p * s) d, R.whole)

    cell-coordinate : (c : ℕ) → c < p → cell_at c / s % p ≡ c
    cell-coordinate c h = place_of_cell p s some_cells R.apart (lane_of p s k) c h

    below : k / s % p < p
    below = mod-lt (k / s) some_cells

    -- the level that belongs at place k is the lane's cell that is read
    module _ (g : List ℤ) where
      read_own : (i : ℕ) → i < n → get_or (own_of (pos 0) p s (lane_of p s k) left n g) i (pos 0) ≡ get_or g (cell_at (left + i)) (pos 0)
      read_own i h = get_d_own (pos 0) p s (lane_of p s k) left n g R.room i h

      pub extended_read : InRim left n p (k / s % p) → extended_at m p s left n g k ≡ get_or g (cell_at (read_from m left n (k / s % p))) (pos 0)
      extended_read (inl a) =
          let c = k / s % p in
          let e = length_own (pos 0) p s (lane_of p s k) left n g R.room in
          padded-before (pos 0) left (own_of (pos 0) p s (lane_of p s k) left n g) m c a
          ∙ ap (λ x. get_or (own_of (pos 0) p s (lane_of p s k) left n g) (cell_before m x (left - c)) (pos 0)) e
          ∙ read_own (cell_before m n (left - c)) (cell-before_in m n left (left - c) R.some (omega arith) (omega arith) R.fills_left refl)
          ∙ ap (λ x. get_or g (cell_at x) (pos 0)) (sym (cond_yes (ltb c left) (left + cell_before m n (left - c)) (left + cell_after m n (c + 1 - (left + n))) (lt-ltb c left a)))
      extended_read (inr a) =
          let c = k / s % p in
          let e = length_own (pos 0) p s (lane_of p s k) left n g R.room in
          padded-after (pos 0) left (own_of (pos 0) p s (lane_of p s k) left n g) m c (omega (arith, e, a.0))
          ∙ ap (λ x. get_or (own_of (pos 0) p s (lane_of p s k) left n g) (cell_after m x (c + 1 - (left + x))) (pos 0)) e
          ∙ read_own (cell_after m n (c + 1 - (left + n))) (cell-after_in m n (p - (left + n)) (c + 1 - (left + n)) R.some (omega (arith, a.0)) (omega (arith, a.1)) R.fills_right refl)
          ∙ ap (λ x. get_or g (cell_at x) (pos 0)) (sym (cond_no (ltb c left) (left + cell_before m n (left - c)) (left + cell_after m n (c + 1 - (left + n))) (le-ltb c left (omega (arith, a.0)))))

      -- a place in the middle holds it already
      extended_own : left ≤ k / s % p → k / s % p < left + n → extended_at m p s left n g k ≡ get_or g k (pos 0)
      extended_own lo hi =
          let i = k / s % p - left in
          let e : left + i ≡ k / s % p = omega arith in
          ap (padded_at (pos 0) (along m) left (own_of (pos 0) p s (lane_of p s k) left n g)) (sym e)
          ∙ padded-inside (pos 0) left (own_of (pos 0) p s (lane_of p s k) left n g) (along m) i (omega (arith, length_own (pos 0) p s (lane_of p s k) left n g R.room))
          ∙ read_own i (omega arith)
          ∙ ap (λ x. get_or g (cell_at x) (pos 0)) e
          ∙ ap (λ x. get_or g x (pos 0)) (sym (cell_of_lane p s some_cells R.apart k))

  -- one coordinate more
  module _ {a count j : ℕ} {g₀ g : List ℤ} (w : length g₀ ≡ len) (rims : (k : ℕ) → a ≤ k → k < a + count → InRim left n p k) (h : j < count) (S : RimStored m p s left n a g₀ g j) where
    here : InRim left n p (a + j)
    here = rims (a + j) (omega arith) (omega arith)

    -- the cells that are read were not stored
    read_kept : (k : ℕ) → k < len → left ≤ k / s % p → k / s % p < left + n → get_or g k (pos 0) ≡ get_or g₀ k (pos 0)
    read_kept k b lo hi = S.stored.cells k (omega arith) ∙ cond_no (on_row a j (k / s % p)) _ _ (row_no a j (k / s % p) (λ x y. rim_off n (rims (k / s % p) x (omega arith)) lo hi))

    pub rim_more : {new : List ℤ} {from : ℕ} → from ≡ read_from m left n (a + j) → new ≡ coordinate_set p s from (a + j) g → RimStored m p s left n a g₀ new (j + 1)
    unfolding coordinate_set
    rim_more {new} {from} e r = record {
      stored =
          stored_over (pos 0) (λ k. on_row a j (k / s % p)) (λ k. eqb (k / s % p) (a + j)) (λ k. on_row a (j + 1) (k / s % p)) (cell_from p s g from) (extended_at m p s left n g₀) S.stored
          (table_stored (pos 0) (cell_from p s g from) (λ k. eqb (k / s % p) (a + j)) g new r)
          (λ k b q. (row_longer a j (k / s % p) ∙ ap (λ t. t || on_row a j (k / s % p)) q, same k (omega arith) (eqb-true (k / s % p) (a + j) q)))
          (λ k b q. row_longer a j (k / s % p) ∙ ap (λ t. t || on_row a j (k / s % p)) q);
    }
      where
        same : (k : ℕ) → k < len → k / s % p ≡ a + j → cell_from p s g from k ≡ extended_at m p s left n g₀ k
        same k b q =
            let f = read_from m left n (a + j) in
            let M = read-middle here in
            let hf : f < p = omega (arith, M.1, R.room) in
            let c = cell-coordinate k b f hf in
            ap (λ x. get_or g (cell_at k b x) (pos 0)) e
            ∙ read_kept (cell_at k b f) (cell_in k b f hf) (omega (arith, c, M.0)) (omega (arith, c, M.1))
            ∙ ap (λ x. get_or g₀ (cell_at k b (read_from m left n x)) (pos 0)) (sym q)
            ∙ sym (extended_read k b g₀ (subst (InRim left n p) (sym q) here))

  -- ---- both rims, one after the other: every lane is its own cells extended
  module _ (g₀ : List ℤ) {g₁ g₂ : List ℤ} (w : length g₀ ≡ len) (e₁ : g₁ ≡ rim_set m p s left n 0 left g₀) (e₂ : g₂ ≡ rim_set m p s left n (left + n) (p - (left + n)) g₁) where
    before : Stored (pos 0) (λ k. on_row 0 left (k / s % p)) (extended_at m p s left n g₀) g₀ g₁
    unfolding rim_set
    before = table_stored (pos 0) (extended_at m p s left n g₀) (λ k. on_row 0 left (k / s % p)) g₀ g₁ e₁

    after : Stored (pos 0) (λ k. on_row (left + n) (p - (left + n)) (k / s % p)) (extended_at m p s left n g₁) g₁ g₂
    unfolding rim_set
    after = table_stored (pos 0) (extended_at m p s left n g₁) (λ k. on_row (left + n) (p - (left + n)) (k / s % p)) g₁ g₂ e₂

    rims_length : length g₂ ≡ length g₀
    rims_length = after.kept ∙ before.kept

    -- a place that is not in the first rim, and one that is not in the second
    not_before : (k : ℕ) → k < len → left ≤ k / s % p → get_or g₁ k (pos 0) ≡ get_or g₀ k (pos 0)
    not_before k b lo = before.cells k (omega arith) ∙ cond_no (on_row 0 left (k / s % p)) _ _ (row_no 0 left (k / s % p) (λ x y. omega arith))

    not_after : (k : ℕ) → k < len → k / s % p < left + n → get_or g₂ k (pos 0) ≡ get_or g₁ k (pos 0)
    not_after k b hi = after.cells k (omega (arith, before.kept)) ∙ cond_no (on_row (left + n) (p - (left + n)) (k / s % p)) _ _ (row_no (left + n) (p - (left + n)) (k / s % p) (λ x y. omega arith))

    -- the lanes' own cells are the same once the first rim is filled
    own_same : (k : ℕ) → k < len → own_of (pos 0) p s (lane_of p s k) left n g₁ ≡ own_of (pos 0) p s (lane_of p s k) left n g₀
    own_same k b =
        ext_get_or (pos 0) (own_of (pos 0) p s (lane_of p s k) left n g₁) (own_of (pos 0) p s (lane_of p s k) left n g₀) (long g₁ ∙ sym (long g₀))
        (λ i h. at i (omega (arith, long g₁)))
      where
        long : (g : List ℤ) → length (own_of (pos 0) p s (lane_of p s k) left n g) ≡ n
        long g = length_own (pos 0) p s (lane_of p s k) left n g R.room

        at : (i : ℕ) → i < n → get_or (own_of (pos 0) p s (lane_of p s k) left n g₁) i (pos 0) ≡ get_or (own_of (pos 0) p s (lane_of p s k) left n g₀) i (pos 0)
        at i h =
            let c : left + i < p = omega (arith, R.room) in
            read_own k b g₁ i h
            ∙ not_before (cell_at k b (left + i)) (cell_in k b (left + i) c) (omega (arith, cell-coordinate k b (left + i) c))
            ∙ sym (read_own k b g₀ i h)

    rims_filled : (k : ℕ) → k < len → get_or g₂ k (pos 0) ≡ extended_at m p s left n g₀ k
    rims_filled k b = go (ltb (k / s % p) left) refl (ltb (k / s % p) (left + n)) refl
      where
        go : (t : Bool) → ltb (k / s % p) left ≡ t → (u : Bool) → ltb (k / s % p) (left + n) ≡ u → get_or g₂ k (pos 0) ≡ extended_at m p s left n g₀ k
        go true x u y =
            let lo = ltb-true (k / s % p) left x in
            not_after k b (omega arith) ∙ before.cells k (omega arith) ∙ cond_yes (on_row 0 left (k / s % p)) _ _ (row_yes 0 left (k / s % p) (omega arith) (omega arith))
        go false x true y =
            let lo = ltb-false (k / s % p) left x in
            let hi = ltb-true (k / s % p) (left + n) y in
            not_after k b hi ∙ not_before k b lo ∙ sym (extended_own k b g₀ lo hi)
        go false x false y =
            let hi = ltb-false (k / s % p) (left + n) y in
            after.cells k (omega (arith, before.kept))
            ∙ cond_yes (on_row (left + n) (p - (left + n)) (k / s % p)) _ _ (row_yes (left + n) (p - (left + n)) (k / s % p) hi (omega (arith, below k b)))
            ∙ ap (λ x. padded_at (pos 0) (along m) left x (k / s % p)) (own_same k b)

    pub rims_all : g₂ ≡ axis_set m p s left n g₀
    unfolding axis_set
    rims_all = tabulate_unique (pos 0) (extended_at m p s left n g₀) g₂ (length g₀) rims_length (λ k b. rims_filled k (omega arith))
