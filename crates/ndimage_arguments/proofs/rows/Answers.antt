-- `rows` meets its contract: every row holds by computing.
use mathlib.Core.Path.{refl}
use Rattle.numbers.specs.Lists.{tabulate}
use Rattle.codes.specs.Codes.{mode_of, padding_of, kernel_of}
use Rattle.ndimage_arguments.proofs.rows.Goals as goal

pub returns : goal.returns
unfolding tabulate mode_of padding_of kernel_of
returns c = record {
  two_cells = refl;
  past_end = refl;
  beyond = refl;
  lengths = refl;
  four-sides = refl;
  mirror = refl;
  reflect = refl;
  constant = refl;
  borders = refl;
  third_constant = refl;
  edge = refl;
  wrap = refl;
  no_code = refl;
  pads = refl;
  pad_out = refl;
  sobel_out = refl;
  correlate1d_whole = refl;
  correlate1d_float = refl;
  play_whole = refl;
  symmetry_other = refl;
  file = refl;
  no_step-numbers = refl;
  count_lent = refl;
  marked = refl;
  two-odd = refl;
  one-mark = refl;
  marks = refl;
  marks_short = refl;
  levels = refl;
  star = refl;
}
