-- `lift_all` meets its contract. The loop's invariant: the lifted levels so far, joined, pass the limit exactly where one of them is far; where none of the
-- line is, their sum is kept.
use Rattle.std.proofs.Common.{get_or, pos, refl, rules}
use Rattle.numbers.proofs.Seen.{seen_joined}
use Rattle.array_levels.proofs.Raising.{lift_read}
use Rattle.statistics_mean.proofs.Lifting.{summed-more}
use Rattle.statistics_mean.proofs.means.lift_all.Goals as goal

pub loop-z-preserved : goal.loop-z-preserved
loop-z-preserved c =
    let k = c.loop-z in
    let L = lift_read (get_or c.args.line.now k.z-index (pos 0)) (search rules) c.lifted-w.ensures in
    (seen_joined 31 _ (pos 0) k.invariant.0 (search rules) L.far, λ f. summed-more (k.invariant.1 f) (search rules) c.requires f L refl)
