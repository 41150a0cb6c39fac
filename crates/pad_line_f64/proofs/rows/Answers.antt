-- `rows` meets its contract: every row holds by computing.
use mathlib.Core.Path.{refl}
use Rattle.numbers.specs.Lists.{tabulate}
use Rattle.numbers.specs.Windows.{window_of}
use Rattle.border.specs.Border.{cell_for, extended_lane}
use Rattle.pad_line.specs.Line.{padded_at, padded_line}
use Rattle.pad_line_f64.proofs.rows.Goals as goal

pub returns : goal.returns
unfolding tabulate window_of cell_for extended_lane padded_at padded_line
returns c = record {
  floats_mirror = λ x y z. refl;
  floats_nearest = λ x y z. refl;
  floats_reflect = λ x y z. refl;
  floats_wrap = λ x y z. refl;
  floats_constant = λ t x. refl;
  bad_mirror = refl;
  bad_reflect = refl;
  bad_wrap = refl;
  bad_nearest = refl;
  last-window = λ x y z. refl;
  past-window = λ x y z. refl;
}
