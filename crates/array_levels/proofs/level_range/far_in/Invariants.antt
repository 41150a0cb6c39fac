-- `far_in` meets its contract. The loop's invariant: the lifted levels before place `z-index`, joined, pass the limit exactly where one of the levels is
-- outside.
use Rattle.numbers.proofs.Seen.{Seen}
use Rattle.array_levels.specs.Near.{is_far}
use Rattle.array_levels.proofs.level_range.far_in.Given as goal

abbrev pub invariant-loop-z : goal.invariant-loop-z
invariant-loop-z l = Seen is_far 2147483647 l.line l.z-index l.bits
