-- A padded grid while a grid is stored in its middle, row by row: what the loop leaves is middle_set.
-- Assumes nothing.
use mathlib.Core.Path.{◌≡◌, refl, sym, ap, ◌∙◌}
use mathlib.Core.Bool.{Bool, true, false, ◌&&◌, cond, true≢false}
use mathlib.Core.List.{List}
use Prim.Native.Nat.{ℕ, ◌+◌, ◌-◌, ◌*◌, ◌/◌, ◌≤◌, ◌<◌}
use native.Mathlib.Nat.{mul-one, add-mul, mul-le-mul, le_refl}
use native.Mathlib.Omega.{arith}
use borrow.Author.Tests.{ltb-true, ltb-false, lt-ltb, le-ltb}
use lib.Dec.{ltb}
use lib.IntN.{ℤ, pos}
use lib.ListN.{length, get_or}
use Rattle.numbers.proofs.Stored.{Stored, stored_none, stored_table, table_stored, stored_over}
use Rattle.numbers.proofs.Tabulate.{tabulate_agree}
use Rattle.array_spec.specs.Grid.{cell_count, coordinate}
use Rattle.array_spec.proofs.Places.{length_pos}
use Rattle.array_spec.proofs.Strides.{outer_of, count_split}
use Rattle.array_spec.proofs.Shapes.{stride_past}
use Rattle.lanes.proofs.AlongAxis.{count_lanes}
use Rattle.lanes.proofs.Part.{on_row, row_yes, row_in}
use Rattle.pad_spec.specs.Pads.{middle_from}
use Rattle.pad_spec.specs.Frame.{Framed, target_of, row_length, row_set_lem, middle_set}
use Rattle.pad_spec.proofs.Room.{grid_accepted}
use Rattle.pad_spec.proofs.OneRow.{cell_on}
use Rattle.pad_middle.proofs.Targets.{source_of, target_lt, target_middle, source_target, source_lt, target_source}
use Rattle.pad_middle.proofs.Row.{target_row}

-- ---- the rows of a grid, one after the other: the places of the middle whose source is in the first rows
abbrev pub in_rows : List ℕ → List ℕ → List ℕ → ℕ → ℕ → Bool
in_rows ns lefts ps row j = middle_from ns lefts 0 (coordinate ps j) && ltb (source_of ns lefts ps j) (row * row_length ns)

abbrev pub source_cell : List ℕ → List ℕ → List ℕ → List ℤ → ℕ → ℤ
source_cell ns lefts ps cells j = get_or cells (source_of ns lefts ps j) (pos 0)

pub record RowsStored (ns lefts ps : List ℕ) (cells out₀ out : List ℤ) (row : ℕ) : Type 0 where
  pub stored : Stored (pos 0) (in_rows ns lefts ps row) (source_cell ns lefts ps cells) out₀ out

pub rows_none : (ns lefts ps : List ℕ) (cells out : List ℤ) → RowsStored ns lefts ps cells out out 0
rows_none ns lefts ps cells out = record {
  stored =
      stored_none (pos 0) (source_cell ns lefts ps cells) (in_rows ns lefts ps 0) out
      (λ j. none (middle_from ns lefts 0 (coordinate ps j)) (le-ltb (source_of ns lefts ps j) (0 * row_length ns) (omega arith)));
}
  where
    none : (s : Bool) {t : Bool} → t ≡ false → s && t ≡ false
    none true e = e
    none false e = refl

module _ (ns lefts ps : List ℕ) (F : Framed ns lefts ps) where
  -- a whole row is in the grid, its target in the padded one
  module _ (row : ℕ) (b : row * row_length ns + row_length ns ≤ cell_count ns) where
    pub row_start_lem : row * row_length ns < cell_count ns
    row_start_lem = omega (arith, length_pos ns (length ns - 1) (grid_accepted F).full)

    target_on : (i : ℕ) → i < row_length ns → target_of ns lefts ps (row * row_length ns + i) ≡ target_of ns lefts ps (row * row_length ns) + i
    target_on i h = target_row ns lefts ps F row i h (omega arith)

    pub row_fits : target_of ns lefts ps (row * row_length ns) + row_length ns ≤ cell_count ps
    row_fits =
        let p = length_pos ns (length ns - 1) (grid_accepted F).full in
        let i = row_length ns - 1 in
        omega (arith, target_on i (omega arith), target_lt ns lefts ps F (row * row_length ns + i) (omega arith))

    -- the places of the row's target are those of the middle whose source is in the row
    module _ (j : ℕ) (l : j < cell_count ps) (at : ℕ) (e : at ≡ target_of ns lefts ps (row * row_length ns)) where
      row_target : on_row at (row_length ns) j ≡ true → target_of ns lefts ps (row * row_length ns + (j - at)) ≡ j
      row_target q = let r = row_in at (row_length ns) j q in target_on (j - at) (omega arith) ∙ omega (arith, r.0)

      pub row_middle : on_row at (row_length ns) j ≡ true → middle_from ns lefts 0 (coordinate ps j) ≡ true
      row_middle q =
          let r = row_in at (row_length ns) j q in
          ap (λ x. middle_from ns lefts 0 (coordinate ps x)) (sym (row_target q)) ∙ target_middle ns lefts ps F (row * row_length ns + (j - at)) (omega (arith, r.0, r.1))

      row_source : on_row at (row_length ns) j ≡ true → source_of ns lefts ps j ≡ row * row_length ns + (j - at)
      row_source q =
          let r = row_in at (row_length ns) j q in
          ap (source_of ns lefts ps) (sym (row_target q)) ∙ source_target ns lefts ps F (row * row_length ns + (j - at)) (omega (arith, r.0, r.1))

      row_hit : on_row at (row_length ns) j ≡ true → in_rows ns lefts ps (row + 1) j ≡ true
      row_hit q =
          let r = row_in at (row_length ns) j q in
          (λ t. row_middle q t && lt-ltb (source_of ns lefts ps j) ((row + 1) * row_length ns) (omega (arith, row_source q, r.0, r.1, add-mul row 1 (row_length ns))) t)

      row_miss : on_row at (row_length ns) j ≡ false → in_rows ns lefts ps (row + 1) j ≡ in_rows ns lefts ps row j
      row_miss q = go (middle_from ns lefts 0 (coordinate ps j)) refl (ltb (source_of ns lefts ps j) (row * row_length ns)) refl (ltb (source_of ns lefts ps j) ((row + 1) * row_length ns)) refl
        where
          go : (s : Bool) → middle_from ns lefts 0 (coordinate ps j) ≡ s → (t : Bool) → ltb (source_of ns lefts ps j) (row * row_length ns) ≡ t
              → (u : Bool) → ltb (source_of ns lefts ps j) ((row + 1) * row_length ns) ≡ u → s && u ≡ s && t
          go false x t y u z = refl
          go true x true y true z = refl
          go true x false y false z = refl
          go true x true y false z = absurd (omega (
            arith,
            ltb-true (source_of ns lefts ps j) (row * row_length ns) y,
            ltb-false (source_of ns lefts ps j) ((row + 1) * row_length ns) z,
            add-mul row 1
                (row_length ns),
          ))
          go true x false y true z = absurd (true≢false (sym (within (source_of ns lefts ps j - row * row_length ns) (omega (arith, low)) (omega (arith, low, high))) ∙ q))
            where
              low : row * row_length ns ≤ source_of ns lefts ps j
              low = ltb-false (source_of ns lefts ps j) (row * row_length ns) y

              high : source_of ns lefts ps j < row * row_length ns + row_length ns
              high = omega (arith, ltb-true (source_of ns lefts ps j) ((row + 1) * row_length ns) z, add-mul row 1 (row_length ns))

              within : (i : ℕ) → source_of ns lefts ps j ≡ row * row_length ns + i → i < row_length ns → on_row at (row_length ns) j ≡ true
              within i r h =
                  let s : j ≡ at + i = sym (target_source ns lefts ps F j l x) ∙ ap (target_of ns lefts ps) r ∙ target_on i h ∙ ap (λ y. y + i) (sym e) in
                  row_yes at (row_length ns) j (omega arith) (omega arith)

    -- one row more
    pub rows_more : {cells out₀ out new : List ℤ} {n at : ℕ} → length out₀ ≡ cell_count ps → n ≡ row_length ns → at ≡ target_of ns lefts ps (row * row_length ns)
        → RowsStored ns lefts ps cells out₀ out row → new ≡ row_set_lem cells (row * n) n at out → RowsStored ns lefts ps cells out₀ new (row + 1)
    unfolding row_set_lem
    rows_more {cells} {out₀} {out} {new} {n} {at} len w e S r = record {
      stored =
          stored_over (pos 0) (in_rows ns lefts ps row) (on_row at (row_length ns)) (in_rows ns lefts ps (row + 1)) (cell_on cells (row * row_length ns) at) (source_cell ns lefts ps cells) S.stored
          (table_stored (pos 0) (cell_on cells (row * row_length ns) at) (on_row at (row_length ns)) out new (r ∙ ap (λ m. row_set_lem cells (row * m) m at out) w))
          (λ j h q. (row_hit j (inside j h) at e q, ap (λ x. get_or cells x (pos 0)) (sym (row_source j (inside j h) at e q))))
          (λ j h q. row_miss j (inside j h) at e q);
    }
      where
        inside : (j : ℕ) → j < length out₀ → j < cell_count ps
        inside j h = omega arith

  -- how many rows there are
  pub rows_whole : cell_count ns / row_length ns * row_length ns ≡ cell_count ns
  rows_whole =
      let a = length ns - 1 in
      let A = grid_accepted F in
      let l : a < length ns = omega (arith, A.some) in
      let o = stride_past ns a (omega arith) in
      ap (λ x. x * row_length ns) (count_lanes ns a A.full l ∙ ap (λ s. outer_of ns a * s) o ∙ mul-one (outer_of ns a))
      ∙ sym (count_split ns a l ∙ ap (λ s. outer_of ns a * (row_length ns * s)) o ∙ ap (λ x. outer_of ns a * x) (mul-one (row_length ns)))

  pub rows_in : {row : ℕ} → row < cell_count ns / row_length ns → row * row_length ns + row_length ns ≤ cell_count ns
  rows_in {row} h = omega (arith, rows_whole, mul-le-mul h (le_refl (row_length ns)), add-mul row 1 (row_length ns))

  -- every row
  pub rows_all : {cells out₀ out : List ℤ} {row : ℕ} → length out₀ ≡ cell_count ps → cell_count ns / row_length ns ≤ row → RowsStored ns lefts ps cells out₀ out row → out
      ≡ middle_set ns lefts ps cells out₀
  unfolding middle_set
  rows_all {cells} {out₀} {out} {row} n h S =
      stored_table (pos 0) (source_cell ns lefts ps cells) (in_rows ns lefts ps row) S.stored
      ∙ tabulate_agree _ _ 0 (length out₀) (λ j b. ap (λ t. cond t (source_cell ns lefts ps cells (0 + j)) (get_or out₀ (0 + j) (pos 0))) (whole (0 + j) (omega arith)))
    where
      whole : (j : ℕ) → j < cell_count ps → in_rows ns lefts ps row j ≡ middle_from ns lefts 0 (coordinate ps j)
      whole j b = go (middle_from ns lefts 0 (coordinate ps j)) refl
        where
          go : (t : Bool) → middle_from ns lefts 0 (coordinate ps j) ≡ t → t && ltb (source_of ns lefts ps j) (row * row_length ns) ≡ t
          go false e = refl
          go true e = lt-ltb (source_of ns lefts ps j) (row * row_length ns) (omega (arith, source_lt ns lefts ps F j b e, rows_whole, mul-le-mul h (le_refl (row_length ns))))
