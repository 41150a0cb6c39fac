-- A grid while one coordinate of an axis is copied onto another: cell by cell of a run, then block by block. What the loops leave is row_set, then coordinate_set.
-- Assumes nothing.
use mathlib.Core.Path.{◌≡◌, refl, sym, ap, ◌∙◌}
use mathlib.Core.Bool.{Bool, true, false, ◌&&◌, cond, true≢false}
use mathlib.Core.List.{List}
use mathlib.Core.Logic.{◌⊎◌, inl, inr}
use Prim.Native.Nat.{ℕ, ◌+◌, ◌-◌, ◌*◌, ◌/◌, ◌%◌, ◌≤◌, ◌<◌}
use native.Mathlib.Nat.{add-mul, mul-one, mul-le-mul, le_refl, mod-lt, div-eq_of_lt-le}
use native.Mathlib.Omega.{arith}
use borrow.Author.Tests.{eqb-true, eq-eqb, ne_eqb, ltb-true, ltb-false, lt-ltb, le-ltb}
use lib.Arith.{digits_div, digits_mod}
use lib.Dec.{ltb, eqb}
use lib.IntN.{ℤ, pos}
use lib.ListN.{length, get_or, set}
use Rattle.numbers.proofs.Stored.{Stored, stored_none, stored_table, table_stored, stored_over}
use Rattle.numbers.proofs.Tabulate.{tabulate_agree}
use Rattle.numbers.proofs.Tests.{and_true, cond_no}
use Rattle.lanes.specs.Lanes.{lane_of, lane_base}
use Rattle.lanes.proofs.Cells.{lane_of_cell, place_of_cell, cell_of_lane, base_of, step_le}
use Rattle.lanes.proofs.Part.{on_row, row_yes, row_in, row_no}
use Rattle.pad_spec.specs.Frame.{row_set_lem}
use Rattle.pad_spec.specs.Runs.{coordinate_set}
use Rattle.pad_spec.proofs.OneRow.{cell_on, RowStored, row_none, row_more, row_all}

-- ---- one run, cell by cell, within one grid: a cell that is read was not stored
pub run_more : {from at count j : ℕ} {out₀ out : List ℤ} (v : ℤ) → j < count → from + count ≤ length out₀ → at + count ≤ length out₀ → (from + count ≤ at) ⊎ (at + count ≤ from)
    → v ≡ get_or out (from + j) (pos 0) → RowStored out₀ from at out₀ out j → RowStored out₀ from at out₀ (set out (at + j) v) (j + 1)
run_more {from} {at} {count} {j} {out₀} {out} v h f t away e S =
    row_more v (omega arith) (e ∙ S.stored.cells (from + j) (omega arith) ∙ cond_no (on_row at j (from + j)) _ _ (row_no at j (from + j) (off away))) S
  where
    off : (from + count ≤ at) ⊎ (at + count ≤ from) → at ≤ from + j → from + j < at + j → ⊥
    off (inl a) b c = omega arith
    off (inr a) b c = omega arith

-- ---- the runs of the coordinates of an axis of p cells, s apart
-- where the run of coordinate c starts in block i
abbrev pub run_at : ℕ → ℕ → ℕ → ℕ → ℕ
run_at p s i c = i * (p * s) + c * s

-- whether place k has coordinate at, in one of the first i blocks
abbrev pub in_blocks : ℕ → ℕ → ℕ → ℕ → ℕ → Bool
in_blocks p s at i k = eqb (k / s % p) at && ltb k (i * (p * s))

-- the cell of the lane through place k that has coordinate from
abbrev pub cell_from : ℕ → ℕ → List ℤ → ℕ → ℕ → ℤ
cell_from p s g from k = get_or g (lane_base p s (lane_of p s k) + from * s) (pos 0)

-- block by block: g is g₀ with the coordinate set in the first i blocks
pub record BlocksStored (p s from at : ℕ) (g₀ g : List ℤ) (i : ℕ) : Type 0 where
  pub stored : Stored (pos 0) (in_blocks p s at i) (cell_from p s g₀ from) g₀ g

pub blocks_none : (p s from at : ℕ) (g : List ℤ) → BlocksStored p s from at g g 0
blocks_none p s from at g = record { stored = stored_none (pos 0) (cell_from p s g from) (in_blocks p s at 0) g (λ k. none (eqb (k / s % p) at) (le-ltb k (0 * (p * s)) (omega arith))) }
  where
    none : (t : Bool) {u : Bool} → u ≡ false → t && u ≡ false
    none true e = e
    none false e = refl

pub blocks_all : {p s from at : ℕ} {g₀ g : List ℤ} {i blocks : ℕ} → length g₀ ≡ blocks * (p * s) → blocks ≤ i → BlocksStored p s from at g₀ g i → g ≡ coordinate_set p s from at g₀
unfolding coordinate_set
blocks_all {p} {s} {from} {at} {g₀} {g} {i} {blocks} w h S =
    stored_table (pos 0) (cell_from p s g₀ from) (in_blocks p s at i) S.stored
    ∙ tabulate_agree _ _ 0 (length g₀) (λ k b. ap (λ t. cond t (cell_from p s g₀ from (0 + k)) (get_or g₀ (0 + k) (pos 0))) (whole (0 + k) (omega arith)))
  where
    whole : (k : ℕ) → k < length g₀ → in_blocks p s at i k ≡ eqb (k / s % p) at
    whole k b = go (eqb (k / s % p) at)
      where
        go : (t : Bool) → t && ltb k (i * (p * s)) ≡ t
        go false = refl
        go true = lt-ltb k (i * (p * s)) (omega (arith, mul-le-mul h (le_refl (p * s))))

module _ (p s : ℕ) (pp : 0 < p) (ps : 0 < s) where
  -- cell r of a run is a cell of a lane
  run_lane : (i c r : ℕ) → r < s → run_at p s i c + r ≡ lane_base p s (i * s + r) + c * s
  run_lane i c r h = swap (i * (p * s)) (c * s) r ∙ sym (λ j. digits_div i h j * (p * s) + digits_mod i h j + c * s)
    where
      swap : (x y z : ℕ) → x + y + z ≡ x + z + y
      swap x y z = omega arith

  module _ (i c k : ℕ) (h : c < p) where
    -- on the run: the coordinate, and the cell of the lane with another one
    module _ (e : on_row (run_at p s i c) s k ≡ true) where
      inside : k - run_at p s i c < s
      inside = omega (arith, (row_in (run_at p s i c) s k e).0, (row_in (run_at p s i c) s k e).1)

      is_cell : k ≡ lane_base p s (i * s + (k - run_at p s i c)) + c * s
      is_cell = omega (arith, (row_in (run_at p s i c) s k e).0) ∙ run_lane i c (k - run_at p s i c) inside

      run-coordinate : k / s % p ≡ c
      run-coordinate = ap (λ x. x / s % p) is_cell ∙ place_of_cell p s pp ps (i * s + (k - run_at p s i c)) c h

      run-cell : (b : ℕ) → lane_base p s (lane_of p s k) + b * s ≡ run_at p s i b + (k - run_at p s i c)
      run-cell b =
          ap (λ x. lane_base p s x + b * s) (ap (lane_of p s) is_cell ∙ lane_of_cell p s pp ps (i * s + (k - run_at p s i c)) c h)
          ∙ sym (run_lane i b (k - run_at p s i c) inside)

    on_run : i * (p * s) ≤ k → k < i * (p * s) + p * s → k / s % p ≡ c → on_row (run_at p s i c) s k ≡ true
    on_run lo hi e =
        let q : k / (p * s) ≡ i = div-eq_of_lt-le (p * s) lo (omega (arith, add-mul i 1 (p * s))) in
        let r : k ≡ i * (p * s) + k % s + c * s = cell_of_lane p s pp ps k ∙ (λ j. base_of p s pp ps k j + e j * s) ∙ ap (λ x. x * (p * s) + k % s + c * s) q in
        row_yes (run_at p s i c) s k (omega arith) (omega (arith, mod-lt k ps))

  -- one block more
  module _ {from at : ℕ} {g₀ g : List ℤ} {i : ℕ} (hf : from < p) (ha : at < p) (other : from ≡ at → ⊥) (S : BlocksStored p s from at g₀ g i) where
    -- the cells that are read were not stored
    kept_from : (k : ℕ) → k < length g₀ → k / s % p ≡ from → get_or g k (pos 0) ≡ get_or g₀ k (pos 0)
    kept_from k b e = S.stored.cells k b ∙ cond_no (in_blocks p s at i k) _ _ (ap (λ t. t && ltb k (i * (p * s))) (ne_eqb (k / s % p) at (λ z. other (sym e ∙ z))))

    pub blocks_more : {new : List ℤ} → i * (p * s) + p * s ≤ length g₀ → new ≡ row_set_lem g (run_at p s i from) s (run_at p s i at) g → BlocksStored p s from at g₀ new (i + 1)
    unfolding row_set_lem
    blocks_more {new} b r = record {
      stored =
          stored_over (pos 0) (in_blocks p s at i) (on_row to s) (in_blocks p s at (i + 1)) (cell_on g (run_at p s i from) to) (cell_from p s g₀ from) S.stored
          (table_stored (pos 0) (cell_on g (run_at p s i from) to) (on_row to s) g new r)
          (λ k l q. (hit k q, same k q)) (λ k l q. miss k q);
    }
      where
        to : ℕ
        to = run_at p s i at

        last : (i + 1) * (p * s) ≡ i * (p * s) + p * s
        last = omega (arith, add-mul i 1 (p * s))

        hit : (k : ℕ) → on_row to s k ≡ true → in_blocks p s at (i + 1) k ≡ true
        hit k q = (λ j. eq-eqb (k / s % p) at (run-coordinate i at k ha q) j && lt-ltb k ((i + 1) * (p * s)) (omega (arith, (row_in to s k q).1, last, step_le s ha)) j)

        same : (k : ℕ) → on_row to s k ≡ true → cell_on g (run_at p s i from) to k ≡ cell_from p s g₀ from k
        same k q =
            let w = row_in to s k q in
            let x = run_at p s i from + (k - to) in
            let on : on_row (run_at p s i from) s x ≡ true = row_yes (run_at p s i from) s x (omega arith) (omega (arith, w.0, w.1)) in
            kept_from x (omega (arith, (row_in (run_at p s i from) s x on).1, step_le s hf)) (run-coordinate i from x hf on)
            ∙ ap (λ y. get_or g₀ y (pos 0)) (sym (run-cell i at k ha q from))

        miss : (k : ℕ) → on_row to s k ≡ false → in_blocks p s at (i + 1) k ≡ in_blocks p s at i k
        miss k q = go (eqb (k / s % p) at) refl (ltb k (i * (p * s))) refl (ltb k ((i + 1) * (p * s))) refl
          where
            go : (t : Bool) → eqb (k / s % p) at ≡ t → (u : Bool) → ltb k (i * (p * s)) ≡ u → (v : Bool) → ltb k ((i + 1) * (p * s)) ≡ v → t && v ≡ t && u
            go false x u y v z = refl
            go true x true y true z = refl
            go true x false y false z = refl
            go true x true y false z = absurd (omega (arith, ltb-true k (i * (p * s)) y, ltb-false k ((i + 1) * (p * s)) z, last))
            go true x false y true z =
                absurd (true≢false (sym (on_run i at k ha (ltb-false k (i * (p * s)) y) (omega (arith, ltb-true k ((i + 1) * (p * s)) z, last)) (eqb-true (k / s % p) at x)) ∙ q))

-- ---- the runs of a block are in the grid, those of two coordinates apart
module _ (p s : ℕ) {i blocks len : ℕ} (w : len ≡ blocks * (p * s)) (h : i < blocks) where
  pub block_in : i * (p * s) + p * s ≤ len
  block_in = omega (arith, step_le (p * s) h)

  pub run_in : {c : ℕ} → c < p → run_at p s i c + s ≤ len
  run_in l = omega (arith, block_in, step_le s l)

pub runs_apart : (p s i : ℕ) {from at : ℕ} → (from ≡ at → ⊥) → (run_at p s i from + s ≤ run_at p s i at) ⊎ (run_at p s i at + s ≤ run_at p s i from)
runs_apart p s i {from} {at} other = go (ltb from at) refl
  where
    go : (t : Bool) → ltb from at ≡ t → (run_at p s i from + s ≤ run_at p s i at) ⊎ (run_at p s i at + s ≤ run_at p s i from)
    go true e = inl (omega (arith, step_le s (ltb-true from at e)))
    go false e = inr (omega (arith, step_le s (past (ltb-false from at e))))
      where
        past : at ≤ from → at < from
        past l = omega arith

-- ---- a block of one place for each coordinate: its runs are single cells
run-one : (from at : ℕ) (g : List ℤ) (v : ℤ) → at < length g → v ≡ get_or g from (pos 0) → set g at v ≡ row_set_lem g from 1 at g
run-one from at g v h e =
    let a : at + 0 ≡ at = omega arith in
    let f : from + 0 ≡ from = omega arith in
    ap (λ x. set g x v) (sym a) ∙ row_all 1 refl (row_more v (omega arith) (e ∙ ap (λ x. get_or g x (pos 0)) (sym f)) (row_none g from at g))

pub blocks_one : {p from at : ℕ} {g₀ g : List ℤ} {i : ℕ} (v : ℤ) → from < p → at < p → (from ≡ at → ⊥) → i * p + p ≤ length g₀ → v ≡ get_or g (i * p + from) (pos 0) → BlocksStored p 1 from at g₀ g i
    → BlocksStored p 1 from at g₀ (set g (i * p + at) v) (i + 1)
blocks_one {p} {from} {at} {g₀} {g} {i} v hf ha other b e S =
    blocks_more p 1 (omega arith) (omega arith) hf ha other S (omega (arith, single 0))
    (run-one (i * p + from) (i * p + at) g v (omega (arith, S.stored.kept)) e ∙ (λ j. row_set_lem g (single from j) 1 (single at j) g))
  where
    single : (c : ℕ) → i * p + c ≡ run_at p 1 i c
    single c = (λ j. i * sym (mul-one p) j + sym (mul-one c) j)
