-- `rows` meets its contract: every row holds by computing.
use mathlib.Core.Path.{refl}
use Rattle.numbers.specs.Lists.{tabulate}
use Rattle.array_spec.specs.Grid.{place_of, coordinate}
use Rattle.border.specs.Border.{cell_for, outer_constants, extended_grid_by}
use Rattle.correlate_spec.specs.Weighed.{summed}
use Rattle.correlate_grid_row.specs.ByRows.{row_sum, rows_to}
use Rattle.correlate_grid_row.proofs.rows.Goals as goal

pub returns : goal.returns
unfolding tabulate place_of coordinate cell_for outer_constants extended_grid_by summed row_sum rows_to
returns c = record { starts = refl; by_rows_lem = refl }
