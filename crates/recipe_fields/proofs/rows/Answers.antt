-- `rows` meets its contract: every row holds by computing.
use mathlib.Core.Path.{refl}
use Rattle.numbers.specs.Lists.{tabulate}
use Rattle.codes.specs.Codes.{coded}
use Rattle.recipe_spec.specs.Recipes.{file_of, bad_mark, bad_step_count, bad_step_constant, bad_step_origin, bad_step}
use Rattle.recipe_fields.specs.Fields.{recipe_fields, bad_byte, bad_signed8, bad_signed16, byte_of, signed8_of, signed16_of, bad_field, bad_fields}
use Rattle.recipe_fields.proofs.rows.Goals as goal

pub returns : goal.returns
unfolding tabulate coded file_of bad_mark bad_step_count bad_step_constant bad_step_origin bad_step recipe_fields bad_byte bad_signed8 bad_signed16 byte_of signed8_of signed16_of bad_field bad_fields
returns c = record {
  example = refl;
  example_steps = refl;
  example_written = refl;
  example_number = refl;
  fields = refl;
  second-step = refl;
  sixteen_steps = refl;
  bytes = refl;
  origins = refl;
  constants = refl;
  kinds-bad = refl;
  origins_bad = refl;
  borders_bad = refl;
  constants-bad = refl;
  short = refl;
  short_number = refl;
  past = refl;
  count_first = refl;
  step-first = refl;
  unheld = refl;
  unheld-past = refl;
  lent = refl;
  file-first = refl;
}
