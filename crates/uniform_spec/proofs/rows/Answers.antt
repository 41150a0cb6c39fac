-- `rows` meets its contract: the rows of each part.
use Rattle.uniform_spec.proofs.MeanRows.{mean_rows}
use Rattle.uniform_spec.proofs.JudgeRows.{judge_rows}
use Rattle.uniform_spec.proofs.rows.Goals as goal

pub returns : goal.returns
returns c = record {
  means = mean_rows;
  judged = judge_rows;
}
