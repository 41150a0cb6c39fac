-- `rows` meets its contract: the rows of each part.
use Rattle.correlate_judge_spec.proofs.WeightRows.{weight-rows}
use Rattle.correlate_judge_spec.proofs.KernelRows.{kernel_rows}
use Rattle.correlate_judge_spec.proofs.rows.Goals as goal

pub returns : goal.returns
returns c = record {
  weights = weight-rows;
  kernels = kernel_rows;
}
