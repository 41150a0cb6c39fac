-- `rows` meets its contract: the rows of each part.
use Rattle.pad_spec.proofs.RimRows.{rim_rows}
use Rattle.pad_spec.proofs.LevelRows.{level-rows}
use Rattle.pad_spec.proofs.FrameRows.{frame_rows}
use Rattle.pad_spec.proofs.rows.Goals as goal

pub returns : goal.returns
returns c = record {
  rims = rim_rows;
  levels = level-rows;
  frames = frame_rows;
}
