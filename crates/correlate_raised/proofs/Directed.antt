-- What the workers of raised cells suppose of their weights holds of them in either direction, and a sum starts from the same number.
-- Assumes nothing.
use Prim.Native.Nat.{ℕ}
use mathlib.Core.Path.{◌≡◌, sym}
use mathlib.Core.Bool.{Bool}
use mathlib.Core.List.{List}
use lib.IntN.{ℤ, pos, ◌+ℤ◌, ◌-ℤ◌, ◌*ℤ◌}
use Rattle.correlate_spec.specs.WindowSum.{window_sum}
use Rattle.direction.specs.Direction.{directed}
use Rattle.direction.proofs.Directed.{directed-length, directed_every, directed-sum}
use Rattle.correlate_plain.proofs.Directed.{line-directed}
use Rattle.correlate_raised_terms.specs.Narrow.{Raised}
use Rattle.correlate_raised.specs.Raised.{raised_start, RaiseNeeds}

pub raise_directed : (backward : Bool) {w s : List ℤ} {by n : ℕ} → RaiseNeeds by w s n → RaiseNeeds by (directed backward w) s n
raise_directed backward {w} {s} {by} A = record {
  weighable = line-directed backward A.weighable;
  low = A.low;
  weights = directed_every (Raised by 131070) backward w A.weights;
  cells = A.cells;
}

pub start_directed : (backward : Bool) (by : ℕ) (w s : List ℤ) (i : ℕ) → raised_start by w s i ≡ raised_start by (directed backward w) s i
start_directed backward by w s i =
    let count = directed-length backward w in
    sym (λ t. pos 0 -ℤ (directed-sum backward w t +ℤ pos (count t) *ℤ pos by) *ℤ pos 2147483648 -ℤ window_sum s (count t) i *ℤ pos by)
