-- The worked rows of this crate's definitions, joined.
--   UniformSpecRows   the means of a line; grids and refusals
use Rattle.uniform_spec.specs.MeanRows.{MeanRows}
use Rattle.uniform_spec.specs.JudgeRows.{JudgeRows}

pub record UniformSpecRows : Type 0 where
  pub means : MeanRows
  pub judged : JudgeRows
