-- `median` meets its contract: of a line that is served the middle level, whichever room it is found in, of any other 0.
use mathlib.Core.Path.{sym, ◌∙◌}
use native.Mathlib.Omega.{arith}
use Rattle.numbers.proofs.Read.{read}
use Rattle.numbers.proofs.Tests.{condition_is}
use Rattle.statistics_spec.specs.Statistics.{median_of}
use Rattle.statistics_spec.proofs.Served.{answered_served, answered-unserved}
use Rattle.statistics_spec.proofs.Computed.{median_none}
use Rattle.statistics.proofs.medians.median.Goals as goal

pub returns-then-n-eq0 : goal.returns-then-n-eq0
returns-then-n-eq0 c = median_none c.args.line.now c.if-n-eq0.true

pub returns-then-not_served : goal.returns-then-not_served
returns-then-not_served c = answered-unserved median_of c.args.line.now (condition_is c.not_served.ensures c.if-not_served.true)

pub of_few-requires : goal.of_few-requires
of_few-requires c = record { line_value = condition_is c.not_served.ensures c.if-not_served.false; line_nonzero = omega arith; line_len_bound = omega arith }

pub returns-then-n-le128 : goal.returns-then-n-le128
returns-then-n-le128 c =
    let k = c in
    read c.of_few.type_inv c.of_few.ensures ∙ sym (answered_served median_of k.args.line.now (condition_is k.not_served.ensures c.if-not_served.false))

pub of_many-requires : goal.of_many-requires
of_many-requires c = record { line_value = condition_is c.not_served.ensures c.if-not_served.false; line_nonzero = omega arith }

pub returns : goal.returns
returns c =
    let k = c in
    read c.of_many.type_inv c.of_many.ensures ∙ sym (answered_served median_of k.args.line.now (condition_is k.not_served.ensures c.if-not_served.false))
