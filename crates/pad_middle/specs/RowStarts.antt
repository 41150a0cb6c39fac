-- Where the rows of a grid start in the padded one, one after the other.
--   RowStarts ns lefts ps row t   t is where that row starts, if there is one: the place of its first cell, and on
--                                 three axes its number on its plane
use Rattle.std.specs.Prelude.{ℕ, ◌*◌, ◌%◌, ◌<◌, ◌≡◌, List, length, get_or}
use Rattle.array_spec.specs.Grid.{cell_count}
use Rattle.pad_spec.specs.Frame.{target_of, row_length}
use Rattle.pad_middle.specs.declared.middle.RowStart.{RowStart}

pub record RowStarts (ns lefts ps : List ℕ) (row : ℕ) (t : RowStart) : Type 0 where
  pub place : row * row_length ns < cell_count ns → t.place ≡ target_of ns lefts ps (row * row_length ns)
  pub offset : length ns ≡ 3 → t.offset ≡ row % get_or ns 1 0
