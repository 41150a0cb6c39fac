-- `any_over` keeps its invariant: a size of 2^31 or more is of a level outside.
use Rattle.std.proofs.Common.{rules}
use Rattle.numbers.proofs.Seen.{seen_size}
use Rattle.array_levels.proofs.level_range.any_over.Goals as goal

pub loop-z-preserved : goal.loop-z-preserved
loop-z-preserved c = seen_size 31 c.loop-z.invariant (search rules) c.z-1.given c.magnitude-sizes.ensures
