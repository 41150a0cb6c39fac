-- `round_trips` meets its contract by the laws of these names.
use Rattle.recipe_spec.proofs.Written.{written_read, read-accepted, read_written}
use Rattle.recipe_spec.proofs.round_trips.Goals as goal

pub returns : goal.returns
returns c = record { written_read = written_read; read-accepted = read-accepted; read_written = read_written }
