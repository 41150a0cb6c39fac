-- `total` meets its contract: of levels near 0 by the lifted sum, of others by the exact one, and 0 where a level is outside.
use Rattle.std.proofs.Common.{◌≡◌, false, sym, ◌∙◌, arith}
use Rattle.numbers.specs.Sums.{sum_of}
use Rattle.numbers.proofs.Read.{read}
use Rattle.numbers.proofs.Tests.{condition_is}
use Rattle.statistics_spec.specs.Statistics.{unserved}
use Rattle.statistics_spec.proofs.Served.{unserved_short, answered_served, answered-unserved}
use Rattle.statistics_mean.specs.NearSum.{NearSum}
use Rattle.statistics_mean.proofs.Lifting.{lowered_fits, lowered-total}
use Rattle.statistics_mean.proofs.means.total.Goals as goal
use Rattle.statistics_mean.proofs.means.total.Goals.{Then-bits-le2147483647}

near : (c : Then-bits-le2147483647) → NearSum c.args.line.now c.lift_all-lifts.result.sum
near c = c.lift_all-lifts.ensures c.if-bits-le2147483647.true

pub overflow_cast-result : goal.overflow_cast-result
overflow_cast-result c = record { sfits = omega (arith, (near c).small, c.requires) }

pub overflow_sub-result : goal.overflow_sub-result
overflow_sub-result c = lowered_fits c.args.line.now (near c) c.requires

pub returns-then-bits-le2147483647 : goal.returns-then-bits-le2147483647
returns-then-bits-le2147483647 c = lowered-total c.args.line.now (near c) c.requires

pub returns-then-any_over : goal.returns-then-any_over
returns-then-any_over c =
    let s = c in
    let l = s.args.line.now in
    answered-unserved sum_of l (condition_is (unserved_short l s.requires (sym c.any_over.ensures)) c.if-any_over.true)

pub sum-requires : goal.sum-requires
sum-requires c = (let served : let s = c in unserved s.args.line.now ≡ false = let s = c in condition_is (unserved_short s.args.line.now s.requires (sym c.any_over.ensures)) c.if-any_over.false in served)

pub returns : goal.returns
returns c = read c.sum.type_inv (c.sum.ensures ∙ sym (answered_served sum_of c.args.line.now ((let served : let s = c in unserved s.args.line.now ≡ false = let s = c in condition_is (unserved_short s.args.line.now s.requires (sym c.any_over.ensures)) c.if-any_over.false in served))))
