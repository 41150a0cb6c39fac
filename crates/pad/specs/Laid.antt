-- What the workers of the calls leave in a padded grid of shape ps, where a grid of shape ns stands lefts cells from
-- its start on each axis.
--   laid mode ns lefts ps cells   the padded grid that holds at every place the level that belongs there
use Rattle.std.specs.Prelude.{ℕ, List, ℤ, length}
use Rattle.numbers.specs.Lists.{tabulate}
use Rattle.array_spec.specs.Grid.{cell_count, coordinate}
use Rattle.border.specs.declared.PadMode.{PadMode}
use Rattle.pad_spec.specs.Levels.{level_to}

unfoldable pub laid : PadMode → List ℕ → List ℕ → List ℕ → List ℤ → List ℤ
laid mode ns lefts ps cells = tabulate (λ k. level_to mode ns lefts cells (length ns) (coordinate ps k)) 0 (cell_count ps)
