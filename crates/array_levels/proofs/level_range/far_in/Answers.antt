-- `far_in` keeps its invariant: a level that is lifted to 2^31 or more is far.
use Rattle.std.proofs.Common.{get_or, pos, rules}
use Rattle.numbers.proofs.Seen.{seen_joined}
use Rattle.array_levels.proofs.Raising.{lift_read}
use Rattle.array_levels.proofs.level_range.far_in.Goals as goal

pub loop-z-preserved : goal.loop-z-preserved
loop-z-preserved c =
    let l = c.loop-z in
    seen_joined 31 _ (pos 0) l.invariant (search rules) (lift_read (get_or c.args.line.now l.z-index (pos 0)) c.z-1.given c.lifted-bits.ensures).far
