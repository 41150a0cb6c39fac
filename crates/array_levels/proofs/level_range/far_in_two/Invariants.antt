-- `far_in_two` meets its contract. The loop's invariant: of each line the lifted levels before place `i`, joined, pass the limit exactly where one of them is
-- outside.
use Rattle.numbers.proofs.Seen.{Seen}
use Rattle.array_levels.specs.Near.{is_far}
use Rattle.array_levels.proofs.level_range.far_in_two.Given as goal

abbrev pub invariant-loop-i : goal.invariant-loop-i
invariant-loop-i l = Seen is_far 2147483647 l.line l.i l.bits × Seen is_far 2147483647 l.other l.i l.more
