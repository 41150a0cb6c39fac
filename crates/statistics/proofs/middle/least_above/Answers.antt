-- `least_above` meets its contract. The loop's invariant: the least of `least` and the levels above z that are left is the least of all those above z.
use borrow.Author.Rules.{rules}
use mir.Syntax.{w32}
use mir.Val.{to_z}
use Rattle.statistics_spec.proofs.NextRank.{above_read}
use Rattle.statistics.proofs.middle.least_above.Goals as goal

pub loop-x-preserved : goal.loop-x-preserved
loop-x-preserved c =
    let k = c.loop-x in
    above_read _ _ c.args.levels.now k.x-index (to_z w32 k.least-bits) _ k.invariant (search rules) (search rules) c.nearer-least.type_inv c.nearer-least.ensures
