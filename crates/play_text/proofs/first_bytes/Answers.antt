-- `first_bytes` meets its contract by the laws of these names.
use Rattle.play_text.proofs.FirstBytes.{same_recipe, same_number, same_levels}
use Rattle.play_text.proofs.first_bytes.Goals as goal

pub returns : goal.returns
returns c = record { same_recipe = same_recipe; same_number = same_number; same_levels = same_levels }
