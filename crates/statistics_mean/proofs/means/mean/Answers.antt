-- `mean` meets its contract: of a line that is not too long the quotient of the sum that is answered by the number of levels, of any other 0.
use Rattle.std.proofs.Common.{length, pos, sym, ap, ◌∙◌, arith, w64, rules}
use lib.Signed.{quot_z}
use Rattle.numbers.proofs.Quotient.{quot_asked, quot_given}
use Rattle.statistics_spec.specs.Statistics.{mean_of}
use Rattle.statistics_spec.proofs.Served.{unserved_long, answered-unserved}
use Rattle.statistics_spec.proofs.Computed.{mean_none, mean_answered}
use Rattle.statistics_mean.proofs.means.mean.Goals as goal

pub returns-then-n-eq0 : goal.returns-then-n-eq0
returns-then-n-eq0 c = mean_none c.args.line.now c.if-n-eq0.true

pub returns-then-n-gt-MOST_CELLS : goal.returns-then-n-gt-MOST_CELLS
returns-then-n-gt-MOST_CELLS c = let l = c.args.line.now in answered-unserved mean_of l (sym (unserved_long l (search rules)))

pub nonzero_div-result : goal.nonzero_div-result
nonzero_div-result c = (omega arith, quot_asked w64 c.total.result (record { sfits = c.total.type_inv }) (length c.args.line.now) (omega arith))

pub returns : goal.returns
returns c =
    let l = c.args.line.now in
    quot_given w64 c.total.result (record { sfits = c.total.type_inv }) (length l) (omega arith)
    ∙ ap (λ z. quot_z z (pos (length l))) c.total.ensures ∙ mean_answered l
