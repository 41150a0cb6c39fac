-- The worked rows of this crate's definitions, joined.
--   CorrelateJudgeSpecRows   weights along an axis; grid kernels
use Rattle.correlate_judge_spec.specs.WeightRows.{WeightRows}
use Rattle.correlate_judge_spec.specs.KernelRows.{KernelRows}

pub record CorrelateJudgeSpecRows : Type 0 where
  pub weights : WeightRows
  pub kernels : KernelRows
