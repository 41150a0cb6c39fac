-- `start_row` meets its contract: where the weights are not raised, the base is all that there is to take away.
use mathlib.Core.Path.{◌∙◌}
use lib.ListN.{length}
use Rattle.numbers.proofs.Read.{read}
use Rattle.correlate_raised.proofs.RaisedStart.{flat_row}
use Rattle.correlate_raised.proofs.raised_start.start_row.Goals as goal

pub returns-then-by-eq0 : goal.returns-then-by-eq0
returns-then-by-eq0 c =
    let s = c in
    let b = c.base_of-base in
    c.fill.ensures ∙ flat_row s.args.by s.args.weights.now s.args.line.now (length s.args.out.now) (read b.type_inv b.ensures) c.if-by-eq0.true
