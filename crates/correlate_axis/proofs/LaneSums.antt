-- What a call supposes gives what the sums of each padded lane suppose.
-- Assumes nothing.
use mathlib.Core.Path.{◌≡◌, refl}
use mathlib.Core.List.{List}
use Prim.Native.Nat.{ℕ, ◌+◌, ◌≤◌}
use native.Mathlib.Omega.{arith}
use lib.IntN.{ℤ, pos}
use lib.ListN.{length}
use Rattle.array_spec.specs.Conditions.{bad_level}
use Rattle.lanes.specs.Lanes.{lane_at}
use Rattle.border.specs.Border.{Border}
use Rattle.pad_line.specs.Line.{padded_line}
use Rattle.pad_line.specs.Lane.{LineNeeds}
use Rattle.pad_line.proofs.EveryPadded.{any_padded}
use Rattle.pad_line.proofs.OneLane.{length-line}
use Rattle.correlate_spec.specs.Sizes.{LineSumNeeds}
use Rattle.correlate_raised_terms.specs.Narrow.{Narrow}
use Rattle.correlate_raised_terms.proofs.RaisedLists.{levels_narrow}
use Rattle.correlate_judge_spec.specs.Judge.{bad_weight}
use Rattle.correlate_axis.specs.WeightNeeds.{too_large, WeightNeeds}

module _ {b : Border ℤ} {n s base left right : ℕ} {g line : List ℤ} (R : LineNeeds b n s base left right g line) {w : List ℤ} (many : length w ≡ left + right + 1) (W : WeightNeeds w b g) where
  sums_fit : LineSumNeeds w (padded_line (pos 0) b left right (lane_at (pos 0) g base s n)) n
  unfolding bad_weight
  sums_fit = let e = length-line (pos 0) R in record {
    some = omega arith;
    few = omega (arith, R.narrow);
    long = omega arith;
    short = omega (arith, R.padding.fits, R.buffer);
    weights = W.weights;
    cells = any_padded too_large (pos 0) b left right n s base g refl W.level W.levels;
  }

  raised_fit : 5 ≤ length w → Narrow (padded_line (pos 0) b left right (lane_at (pos 0) g base s n))
  unfolding bad_level
  raised_fit h = levels_narrow (padded_line (pos 0) b left right (lane_at (pos 0) g base s n)) (any_padded bad_level (pos 0) b left right n s base g refl (W.narrow h).0 (W.narrow h).1)

  pub lane_weighed : LineSumNeeds w (padded_line (pos 0) b left right (lane_at (pos 0) g base s n)) n × (5 ≤ length w → Narrow (padded_line (pos 0) b left right (lane_at (pos 0) g base s n)))
  lane_weighed = (sums_fit, raised_fit)
