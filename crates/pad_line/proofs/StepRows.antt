-- The worked rows of cells copied by steps: each holds by computing.
-- Assumes nothing.
use mathlib.Core.Path.{refl}
use Rattle.numbers.specs.Lists.{tabulate}
use Rattle.pad_line.specs.Steps.{step_set}
use Rattle.pad_line.specs.StepRows.{StepRows}

pub step-rows : StepRows
unfolding tabulate step_set
step-rows = record { nearest = refl; mirror = refl; reflect = refl; wrap = refl }
