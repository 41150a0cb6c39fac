-- `pair_term` meets its contract: either way of joining is the one that it was told.
use mathlib.Core.Bool.{true, false}
use Rattle.correlate_pairs_f64.proofs.Turns.{condition_is}
use Rattle.correlate_pairs_f64.proofs.terms.pair_term.Goals as goal

pub returns-then-minus : goal.returns-then-minus
returns-then-minus c = condition_is _ true _ _ _ c.if-minus.true

pub returns : goal.returns
returns c = condition_is _ false _ _ _ c.if-minus.false
