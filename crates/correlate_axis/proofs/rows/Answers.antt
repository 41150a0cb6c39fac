-- `rows` meets its contract: every row holds by computing.
use mathlib.Core.Path.{refl}
use mathlib.Core.Bool.{true≢false}
use native.Mathlib.Omega.{arith}
use Rattle.numbers.specs.Lists.{tabulate}
use Rattle.array_spec.specs.Conditions.{bad_level}
use Rattle.border.specs.Border.{cell_for, extended_lane}
use Rattle.pad_line.specs.Line.{padded_at, padded_line}
use Rattle.correlate_spec.specs.Weighed.{summed}
use Rattle.correlate_judge_spec.specs.Judge.{bad_weight}
use Rattle.correlate_axis.proofs.rows.Goals as goal

pub returns : goal.returns
unfolding tabulate cell_for extended_lane padded_at padded_line summed bad_level bad_weight
returns c = record {
  limits = refl;
  four = record { weights = refl; level = refl; levels = refl; narrow = λ h. absurd (omega (arith, h)) };
  five_not = λ W. true≢false (W.narrow (omega arith)).1;
  weighed = refl;
}
