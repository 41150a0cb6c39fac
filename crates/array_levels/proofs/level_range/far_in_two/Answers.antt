-- `far_in_two` keeps its invariant: of each line a level that is lifted to 2^31 or more is far.
use Rattle.std.proofs.Common.{get_or, pos, rules}
use Rattle.numbers.proofs.Seen.{seen_joined}
use Rattle.array_levels.proofs.Raising.{lift_read}
use Rattle.array_levels.proofs.level_range.far_in_two.Goals as goal

pub loop-i-preserved : goal.loop-i-preserved
loop-i-preserved c =
    let l = c.loop-i in
    let a = c.args in (
      seen_joined 31 _ (pos 0) l.invariant.0 (search rules) (lift_read (get_or a.line.now l.i (pos 0)) c.z-1.given c.lifted-bits.ensures).far,
      seen_joined 31 _ (pos 0) l.invariant.1 (search rules) (lift_read (get_or a.other.now l.i (pos 0)) c.y-1.given c.lifted-more.ensures).far,
    )
