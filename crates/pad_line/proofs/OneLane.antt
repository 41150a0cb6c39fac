-- One lane, over any element and line filter: padded into the line, and filtered into a row of as many cells.
-- Assumes nothing.
use mathlib.Core.Path.{◌≡◌, sym, ap, ◌∙◌}
use mathlib.Core.List.{List, ◌++◌}
use Prim.Native.Nat.{ℕ, ◌+◌}
use lib.ListN.{length, take, drop}
use lib.Seq.{take_at}
use Rattle.lanes.specs.Lanes.{lane_at}
use Rattle.lanes.proofs.Cells.{length-lane_at}
use Rattle.border.specs.Border.{Border}
use Rattle.pad_line.specs.Line.{padded_line}
use Rattle.pad_line.specs.Lane.{filtered_lane, LineNeeds}
use Rattle.pad_line.proofs.Padded.{length-padded}

module _ {A : Type 0} (d : A) {b : Border A} {n s base left right : ℕ} {g line₀ : List A} (R : LineNeeds b n s base left right g line₀) where
  abbrev source : List A
  source = lane_at d g base s n

  pub length-line : length (padded_line d b left right (lane_at d g base s n)) ≡ left + n + right
  length-line = length-padded d left source b right ∙ ap (λ x. left + x + right) (length-lane_at d g base s n)

  module _ {line : List A} (read : line ≡ padded_line d b left right (lane_at d g base s n) ++ drop (left + n + right) line₀) where
    pub front_is : take (left + n + right) line ≡ padded_line d b left right (lane_at d g base s n)
    front_is = ap (take (left + n + right)) read ∙ take_at (padded_line d b left right source) (drop (left + n + right) line₀) (left + n + right) length-line

    pub lane-filtered : (f : List A → ℕ → List A) {row : List A} → row ≡ f (take (left + n + right) line) n → row ≡ filtered_lane d f b left right (lane_at d g base s n)
    lane-filtered f found = found ∙ (λ j. f (front_is j) (sym (length-lane_at d g base s n) j))
