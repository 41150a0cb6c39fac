-- The worked rows of recipe files: each holds by computing.
-- Assumes nothing.
use mathlib.Core.Path.{refl}
use Rattle.numbers.specs.Lists.{tabulate}
use Rattle.recipe_spec.specs.Recipes.{file_of, bad_mark, bad_step_count, bad_step_constant, bad_step_origin, bad_step}
use Rattle.recipe_spec.specs.FileRows.{FileRows}

pub file-rows : FileRows
unfolding tabulate file_of bad_mark bad_step_count bad_step_constant bad_step_origin bad_step
file-rows = record {
  example = refl;
  example_read = refl;
  signed = refl;
  least = refl;
  greatest = refl;
  signed_read = refl;
  two = refl;
  marks = refl;
  counts = refl;
  lengths = refl;
  longest = refl;
  kinds = refl;
  borders = refl;
  constants = refl;
  origins = refl;
  any_step = refl;
  count_first = refl;
  past = refl;
  lent = refl;
  nothing = refl;
}
