-- `rows` meets its contract: every row holds by computing.
use mathlib.Core.Path.{refl}
use native.Mathlib.Omega.{arith}
use Rattle.numbers.specs.Lists.{tabulate}
use Rattle.array_spec.specs.Grid.{place_of, coordinate}
use Rattle.pad_middle.specs.Around.{gap_set, around_set}
use Rattle.pad_middle.proofs.rows.Goals as goal

pub returns : goal.returns
unfolding tabulate place_of coordinate gap_set around_set
returns c = record {
  first_row = record { place = λ h. refl; offset = λ e. absurd (omega arith) };
  second_row = record { place = λ h. refl; offset = λ e. absurd (omega arith) };
  third_axis = λ t r. (r.place (omega arith), r.offset refl);
  gap = refl;
  gap_none = refl;
  around = refl;
  around-rows = refl;
}
