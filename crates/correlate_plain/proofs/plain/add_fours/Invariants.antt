-- `add_fours` meets its contract: each turn adds the terms of four weights to the whole row.
use mathlib.Core.Path.{◌≡◌}
use Prim.Native.Nat.{◌-◌, ◌≤◌}
use lib.ListN.{length}
use Rattle.direction.specs.Direction.{directed}
use Rattle.correlate_plain.proofs.Passes.{Adding}
use Rattle.correlate_plain.proofs.plain.add_fours.Given as goal

abbrev pub invariant-loop-k : goal.invariant-loop-k
invariant-loop-k l = (l.k ≤ l.count) × (l.count ≡ length l.weights) × Adding (directed l.backward l.weights) l.line l.initial.out l.k l.out

abbrev pub decreases-loop-k : goal.decreases-loop-k
decreases-loop-k l = l.count - l.k
