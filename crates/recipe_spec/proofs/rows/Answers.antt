-- `rows` meets its contract: the rows of each part.
use Rattle.recipe_spec.proofs.FileRows.{file-rows}
use Rattle.recipe_spec.proofs.PlayRows.{play_rows}
use Rattle.recipe_spec.proofs.rows.Goals as goal

pub returns : goal.returns
returns c = record { files = file-rows; plays = play_rows }
