-- `bad_levels_f64` meets its contract. The loop's invariant: `bad`, at most the index, is above 0 exactly where a level before it is not finite.
use Rattle.std.proofs.Common.{◌≤◌}
use Rattle.numbers.proofs.Seen.{Seen}
use Rattle.array_spec.specs.Conditions.{bad_float}
use Rattle.array_levels.proofs.conditions.bad_levels_f64.Given as goal

abbrev pub invariant-loop-x : goal.invariant-loop-x
invariant-loop-x l = (l.bad ≤ l.x-index) × Seen bad_float 0 l.data l.x-index l.bad
