-- `fields_back` meets its contract: the laws of Back.
use Rattle.recipe_fields.proofs.Back.{steps_back, none-bad, fields_accepted, fields_written}
use Rattle.recipe_fields.proofs.fields_back.Goals as goal

pub returns : goal.returns
returns c = record { steps_back = steps_back; none-bad = none-bad; read-accepted = fields_accepted; read_written = fields_written }
