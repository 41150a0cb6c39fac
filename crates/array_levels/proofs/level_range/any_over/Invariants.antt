-- `any_over` meets its contract. The loop's invariant: the sizes before place `z-index`, joined, pass the limit exactly where one of them is outside.
use Rattle.std.proofs.Common.{◌-◌, ◌^◌, pos, neg_ℤ}
use Rattle.numbers.specs.Ranges.{outside_z}
use Rattle.numbers.proofs.Seen.{Seen}
use Rattle.array_levels.proofs.level_range.any_over.Given as goal

abbrev pub invariant-loop-z : goal.invariant-loop-z
invariant-loop-z l = Seen (outside_z (neg_ℤ (pos (2 ^ 31 - 1))) (pos (2 ^ 31 - 1))) 2147483647 l.line l.z-index l.sizes
