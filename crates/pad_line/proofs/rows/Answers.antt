-- `rows` meets its contract: the rows of each part.
use Rattle.pad_line.proofs.LineRows.{line-rows}
use Rattle.pad_line.proofs.StepRows.{step-rows}
use Rattle.pad_line.proofs.rows.Goals as goal

pub returns : goal.returns
returns c = record {
  lines = line-rows;
  steps = step-rows;
}
