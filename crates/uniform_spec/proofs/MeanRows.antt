-- The worked rows of the means of a line: each holds by computing.
-- Assumes nothing.
use mathlib.Core.Path.{refl}
use Rattle.numbers.specs.Lists.{tabulate}
use Rattle.numbers.specs.Windows.{window_of}
use Rattle.uniform_spec.specs.MeanRows.{MeanRows}

pub mean_rows : MeanRows
unfolding tabulate window_of
mean_rows = record { cuts = refl; t6 = refl; alone = refl }
