-- `vote_inside` meets its contract: each turn stores the vote of one cell.
use mathlib.Core.Bool.{false}
use Prim.Native.Nat.{◌+◌, ◌-◌, ◌≤◌}
use lib.ListN.{length}
use Rattle.numbers.proofs.Stored.{Stored}
use Rattle.median_spec.specs.ByRows.{voted_at, in_row}
use Rattle.median_votes.proofs.votes.vote_inside.Given as goal

abbrev pub invariant-loop-i : goal.invariant-loop-i
invariant-loop-i l = (l.a + length l.counts ≤ length l.initial.out) × Stored false (in_row (l.a + 1) l.i) (λ k. voted_at l.counts l.m (k - l.a)) l.initial.out l.out
