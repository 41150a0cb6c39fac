-- `rows` meets its contract: every row holds by computing.
use mathlib.Core.Path.{refl}
use native.Mathlib.Omega.{arith}
use Rattle.numbers.specs.Lists.{tabulate}
use Rattle.border.specs.Border.{cell_for}
use Rattle.correlate_grid_axes.specs.Axes.{source_for}
use Rattle.correlate_grid_axes.proofs.rows.Goals as goal

pub returns : goal.returns
unfolding tabulate cell_for source_for
returns c = record { sources = refl; no_source = refl; axes = refl; serves_not = λ S. omega (arith, S.wide) }
