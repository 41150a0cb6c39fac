-- `judged_before` meets its contract by the laws of these names.
use Rattle.recipe_spec.proofs.Before.{same_number, in_place}
use Rattle.recipe_spec.proofs.judged_before.Goals as goal

pub returns : goal.returns
returns c = record { same_number = same_number; in_place = in_place }
