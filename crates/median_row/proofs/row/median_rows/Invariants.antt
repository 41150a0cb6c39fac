-- `median_rows` meets its contract: each turn sets one row.
use mathlib.Core.Bool.{false}
use Prim.Native.Nat.{◌-◌, ◌*◌, ◌≤◌}
use lib.Dec.{ltb}
use Rattle.numbers.proofs.Stored.{Stored}
use Rattle.median_spec.specs.ByRows.{median_of_place}
use Rattle.median_row.proofs.row.median_rows.Given as goal

abbrev pub invariant-loop-r : goal.invariant-loop-r
invariant-loop-r l = Stored false (λ k. ltb k (l.r * l.n)) (median_of_place l.planes l.rows l.n l.mask) l.initial.out l.out
