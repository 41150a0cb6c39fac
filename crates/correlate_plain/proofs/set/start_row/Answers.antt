-- `start_row` meets its contract: the row is filled from the front with sums of one term, which fit.
use mathlib.Core.Path.{◌∙◌}
use lib.IntN.{pos}
use Rattle.direction.specs.Direction.{directed}
use Rattle.correlate_spec.proofs.Along.{pass_none, pass_more, pass_all}
use Rattle.correlate_spec.proofs.Computed.{computed_read}
use Rattle.correlate_plain.proofs.Directed.{line-directed}
use Rattle.correlate_plain.proofs.Turns.{cell-read, one, first_one}
use Rattle.correlate_plain.proofs.set.start_row.Goals as goal

pub weight_at-weight-requires : goal.weight_at-weight-requires
weight_at-weight-requires c = c.requires.some

pub loop-i-init : goal.loop-i-init
loop-i-init c = pass_none (pos 0) _ _

pub overflow_mul-out : goal.overflow_mul-out
overflow_mul-out c = let v = c in let W = line-directed v.args.backward v.requires in
    (one W _ _ (cell-read W _) v.weight_at-weight.ensures).fits

pub loop-i-preserved : goal.loop-i-preserved
loop-i-preserved c = let v = c in let a = v.args in let W = line-directed a.backward v.requires in
    pass_more c.loop-i.invariant c.loop-i-test.true
    (computed_read (one W _ _ (cell-read W _) v.weight_at-weight.ensures) ∙ first_one (directed a.backward a.weights.now) a.line.now _)

pub returns : goal.returns
returns c = pass_all c.loop-i.invariant c.loop-i-test.false
