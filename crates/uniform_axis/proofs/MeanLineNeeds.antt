-- What the means suppose of a call gives what they suppose of each padded lane.
-- Assumes nothing.
use mathlib.Core.Path.{refl}
use mathlib.Core.List.{List}
use Prim.Native.Nat.{ℕ, ◌+◌}
use native.Mathlib.Omega.{arith}
use lib.IntN.{ℤ, pos}
use Rattle.array_spec.specs.Conditions.{bad_level}
use Rattle.lanes.specs.Lanes.{lane_at}
use Rattle.border.specs.Border.{Border}
use Rattle.pad_line.specs.Line.{padded_line}
use Rattle.pad_line.specs.Lane.{LineNeeds}
use Rattle.pad_line.proofs.EveryPadded.{any_padded}
use Rattle.pad_line.proofs.OneLane.{length-line}
use Rattle.uniform_spec.specs.Mean.{MeanLineNeeds}
use Rattle.uniform_axis.specs.MeanAxisNeeds.{MeanAxisNeeds}

pub lane_averaged : {b : Border ℤ} {n s base left right : ℕ} {g line₀ : List ℤ} → LineNeeds b n s base left right g line₀ → MeanAxisNeeds (left + right + 1) b g
    → MeanLineNeeds (padded_line (pos 0) b left right (lane_at (pos 0) g base s n)) (left + right + 1) n
unfolding bad_level
lane_averaged {b} {n} {s} {base} {left} {right} {g} R S = record {
  some = omega arith;
  few = S.few;
  long = omega (arith, length-line (pos 0) R);
  levels = any_padded bad_level (pos 0) b left right n s base g refl S.level S.levels;
}
