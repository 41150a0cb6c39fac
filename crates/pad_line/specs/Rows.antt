-- The worked rows of this crate's definitions, joined.
--   PadLineRows   padded lines; cells copied by steps
use Rattle.pad_line.specs.LineRows.{LineRows}
use Rattle.pad_line.specs.StepRows.{StepRows}

pub record PadLineRows : Type 0 where
  pub lines : LineRows
  pub steps : StepRows
