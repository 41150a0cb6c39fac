-- A grid of shape ns inside a padded grid of shape ps, lefts cells from its start on each axis; its own cells stand in
-- the middle.
--   Framed ns lefts ps              the grid has room in the padded one
--   Filling m ns lefts ps           and cells of a lane along m fill both rims of every axis
--   target_of ns lefts ps k          the place in the padded grid of the cell at place k
--   row_length ns                    the length of the last axis, along which a grid's cells stand side by side
--   row_set cells from n at held     held with n of the cells, those from place from on, stored from place at on
--   middle_set ns lefts ps cells held    held, a padded grid, with the cells stored in its middle
use Rattle.std.specs.Prelude.{ℕ, ◌+◌, ◌-◌, ◌≤◌, ◌<◌, ◌≡◌, false, ◌&&◌, cond, List, leb, ltb, ℤ, pos, length, get_or}
use Rattle.numbers.specs.Limits.{longest_padded_axis, most_padded_cells}
use Rattle.numbers.specs.Lists.{tabulate}
use Rattle.array_spec.specs.Conditions.{bad_shape}
use Rattle.array_spec.specs.Grid.{cell_count, length_of, place_of, coordinate, level_at}
use Rattle.border.specs.declared.CellBorder.{CellBorder}
use Rattle.border.specs.Reach.{bad_along}
use Rattle.pad_spec.specs.Pads.{middle_from}

pub record Framed (ns lefts ps : List ℕ) : Type 0 where
  pub shape : bad_shape ns ≡ false
  pub starts : length lefts ≡ length ns
  pub axes : length ps ≡ length ns
  pub room : (a : ℕ) → a < length ns → get_or lefts a 0 + length_of ns a ≤ length_of ps a
  pub short : (a : ℕ) → length_of ps a ≤ longest_padded_axis
  pub small : cell_count ps ≤ most_padded_cells

pub record Filling (m : CellBorder) (ns lefts ps : List ℕ) : Type 0 where
  pub framed : Framed ns lefts ps
  pub fills_left : (a : ℕ) → a < length ns → bad_along m (length_of ns a) (get_or lefts a 0) ≡ false
  pub fills_right : (a : ℕ) → a < length ns
      → bad_along m (length_of ns a) (length_of ps a - (get_or lefts a 0 + length_of ns a)) ≡ false

abbrev pub target_of : List ℕ → List ℕ → List ℕ → ℕ → ℕ
target_of ns lefts ps k = place_of ps (λ a. get_or lefts a 0 + coordinate ns k a)

abbrev pub row_length : List ℕ → ℕ
row_length ns = length_of ns (length ns - 1)

unfoldable pub row_set_lem : List ℤ → ℕ → ℕ → ℕ → List ℤ → List ℤ
row_set_lem cells from n at held = tabulate (λ k. cond (leb at k && ltb k (at + n)) (get_or cells (from + (k - at)) (pos 0))
    (get_or held k (pos 0))) 0 (length held)

unfoldable pub middle_set : List ℕ → List ℕ → List ℕ → List ℤ → List ℤ → List ℤ
middle_set ns lefts ps cells held =
    tabulate (λ k. cond (middle_from ns lefts 0 (coordinate ps k))
    (level_at (pos 0) ns cells (λ a. coordinate ps k a - get_or lefts a 0)) (get_or held k (pos 0))) 0 (length held)
