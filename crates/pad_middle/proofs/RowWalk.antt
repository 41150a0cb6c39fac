-- The walk over the rows of a grid that stands in a padded one, for every loop that does something at each row's target: how many rows there are, where the row of a
-- turn stands in both grids, and that the numbers on the way are small.
-- Assumes nothing.
use mathlib.Core.Path.{◌≡◌, sym, ap, subst, ◌∙◌}
use mathlib.Core.List.{List}
use Prim.Native.Nat.{ℕ, ◌+◌, ◌-◌, ◌*◌, ◌/◌, ◌≤◌, ◌<◌}
use native.Mathlib.Nat.{mul-le-mul, le_refl}
use native.Mathlib.Omega.{arith}
use lib.ListN.{length, get_or}
use Rattle.numbers.proofs.Index.{get_d_default}
use Rattle.array_spec.specs.Grid.{cell_count}
use Rattle.array_spec.proofs.Places.{length_pos}
use Rattle.pad_spec.specs.Frame.{Framed, target_of, row_length}
use Rattle.pad_spec.proofs.Room.{grid_accepted}
use Rattle.pad_middle.specs.declared.middle.RowStart.{RowStart}
use Rattle.pad_middle.specs.RowStarts.{RowStarts}
use Rattle.pad_middle.proofs.Copied.{rows_whole, rows_in, row_start_lem, row_fits}
use Rattle.pad_middle.proofs.RowPlace.{row_small}

-- n is the length of a row, row the first of the rows that are left, and t where it starts
pub record RowWalk (ns lefts ps : List ℕ) (n rows row : ℕ) (t : RowStart) : Type 0 where
  pub within : row ≤ rows
  pub width : n ≡ row_length ns
  pub count : rows ≡ cell_count ns / row_length ns
  pub starts : RowStarts ns lefts ps row t

module _ {ns lefts ps : List ℕ} (F : Framed ns lefts ps) where
  -- ---- the last axis, as the code reads it: it is there, and has a cell
  pub axes_some : 0 < length ns
  axes_some = (grid_accepted F).some

  pub axes_few : length ns ≤ 3
  axes_few = (grid_accepted F).few

  pub last_in_lem : length ns - 1 < length ns
  last_in_lem = omega (arith, axes_some)

  last_width : get_or ns (length ns - 1) 0 ≡ row_length ns
  last_width = get_d_default ns (length ns - 1) 0 1 last_in_lem

  pub last_some : 0 < get_or ns (length ns - 1) 0
  last_some = omega (arith, last_width, length_pos ns (length ns - 1) (grid_accepted F).full)

  -- ---- no row yet, of as many rows as the cells make
  pub walk_none : {cells : ℕ} {t : RowStart} → cells ≡ cell_count ns → RowStarts ns lefts ps 0 t → RowWalk ns lefts ps (get_or ns (length ns - 1) 0) (cells / get_or ns (length ns - 1) 0) 0 t
  walk_none e s = record { within = omega arith; width = last_width; count = (λ i. e i / last_width i); starts = s }

  module _ {n rows row : ℕ} {t : RowStart} (W : RowWalk ns lefts ps n rows row t) where
    -- every row
    pub walk_all : rows ≤ row → cell_count ns ≤ row * row_length ns
    walk_all h = omega (arith, rows_whole ns lefts ps F, mul-le-mul (subst (λ x. x ≤ row) W.count h) (le_refl (row_length ns)))

    -- ---- the row of a turn: in the grid, and its target in the padded one
    module _ (b : row < rows) where
      pub walk_row : row * row_length ns + row_length ns ≤ cell_count ns
      walk_row = rows_in ns lefts ps F (omega (arith, W.count))

      pub walk_there : row * row_length ns < cell_count ns
      walk_there = row_start_lem ns lefts ps F row walk_row

      pub walk_target : t.place ≡ target_of ns lefts ps (row * row_length ns)
      walk_target = W.starts.place walk_there

      pub walk_in : t.place + n ≤ cell_count ps
      walk_in = omega (arith, W.width, walk_target, row_fits ns lefts ps F row walk_row)

      -- as the code counts its cells
      pub walk_read : row * n + n ≤ cell_count ns
      walk_read = subst (λ x. row * x + x ≤ cell_count ns) (sym W.width) walk_row

      pub walk_few : row ≤ 8192
      walk_few = row_small ns lefts ps F row walk_there

      -- one row more
      pub walk_more : {s : RowStart} → RowStarts ns lefts ps (row + 1) s → RowWalk ns lefts ps n rows (row + 1) s
      walk_more s = record { within = omega arith; width = W.width; count = W.count; starts = s }
