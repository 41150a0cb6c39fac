-- `left_weight` meets its contract: the place that mirrors left is left counted from the end.
use mathlib.Core.Path.{ap, ◌∙◌}
use lib.Ieee.{nan}
use lib.ListN.{get_or}
use Rattle.direction.proofs.Directed.{from_end_lem, from_front}
use Rattle.correlate_pairs_f64.proofs.pairs.left_weight.Goals as goal

pub returns-then-backward : goal.returns-then-backward
returns-then-backward c =
    let s = c in
    let w = s.args.weights.now in
    ap (λ k. get_or w k nan) s.requires.1 ∙ from_end_lem w s.args.left nan s.requires.0 c.if-backward.true

pub returns : goal.returns
returns c = let s = c in from_front s.args.weights.now s.args.left nan c.if-backward.false
