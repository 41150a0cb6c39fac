-- A list while a row of neighbouring places is stored, cell by cell: what the loop leaves is row_set.
-- Assumes nothing.
use mathlib.Core.Path.{◌≡◌, ap, subst, ◌∙◌}
use mathlib.Core.List.{List}
use Prim.Native.Nat.{ℕ, ◌+◌, ◌-◌, ◌<◌}
use native.Mathlib.Omega.{arith}
use lib.Dec.{eqb}
use lib.IntN.{ℤ, pos}
use lib.ListN.{length, get_or, set}
use Rattle.numbers.proofs.Stored.{Stored, stored_none, stored_one, stored_then, stored_table}
use Rattle.lanes.proofs.Part.{on_row, row_empty, row_longer}
use Rattle.pad_spec.specs.Frame.{row_set_lem}

-- ---- one row, cell by cell: out is out₀ with the first j cells of the row stored
abbrev pub cell_on : List ℤ → ℕ → ℕ → ℕ → ℤ
cell_on cells from at k = get_or cells (from + (k - at)) (pos 0)

pub record RowStored (cells : List ℤ) (from at : ℕ) (out₀ out : List ℤ) (j : ℕ) : Type 0 where
  pub stored : Stored (pos 0) (on_row at j) (cell_on cells from at) out₀ out

pub row_none : (cells : List ℤ) (from at : ℕ) (out : List ℤ) → RowStored cells from at out out 0
row_none cells from at out = record { stored = stored_none (pos 0) (cell_on cells from at) (on_row at 0) out (row_empty at) }

pub row_more : {cells : List ℤ} {from at : ℕ} {out₀ out : List ℤ} {j : ℕ} (v : ℤ) → at + j < length out₀ → v ≡ get_or cells (from + j) (pos 0)
    → RowStored cells from at out₀ out j → RowStored cells from at out₀ (set out (at + j) v) (j + 1)
row_more {cells} {from} {at} {out₀} {out} {j} v b e S = record {
  stored =
      stored_then (pos 0) (cell_on cells from at) (on_row at j) (λ k. eqb k (at + j)) (on_row at (j + 1)) S.stored
      (stored_one (pos 0) (cell_on cells from at) out (at + j) v (omega (arith, S.stored.kept)) (e ∙ ap (λ x. get_or cells (from + x) (pos 0)) (past at j)))
      (row_longer at j);
}
  where
    past : (at j : ℕ) → j ≡ at + j - at
    past at j = omega arith

pub row_all : {cells : List ℤ} {from at : ℕ} {out₀ out : List ℤ} {j : ℕ} (n : ℕ) → j ≡ n → RowStored cells from at out₀ out j → out ≡ row_set_lem cells from n at out₀
unfolding row_set_lem
row_all {cells} {from} {at} {out₀} {out} {j} n e S = stored_table (pos 0) (cell_on cells from at) (on_row at n) (subst (RowStored cells from at out₀ out) e S).stored
