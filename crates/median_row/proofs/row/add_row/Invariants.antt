-- `add_row` meets its contract: cell by cell, and no count passes 255.
use mathlib.Core.Path.{◌≡◌}
use Prim.Native.Nat.{◌-◌, ◌≤◌}
use lib.Dec.{ltb}
use lib.ListN.{length}
use Rattle.numbers.proofs.Stored.{Stored}
use Rattle.median_spec.proofs.Adding.{plus}
use Rattle.median_row.proofs.row.add_row.Given as goal

abbrev pub invariant-loop-i : goal.invariant-loop-i
invariant-loop-i l = Stored 0 (λ k. ltb k l.i) (plus l.initial.counts l.row) l.initial.counts l.counts
