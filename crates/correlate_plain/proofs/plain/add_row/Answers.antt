-- `add_row` meets its contract: along the row, each cell gets the term of one weight; term and sum fit.
use mathlib.Core.Path.{refl}
use lib.IntN.{pos}
use Rattle.correlate_spec.proofs.Along.{pass_none, pass_all}
use Rattle.correlate_plain.proofs.Directed.{line-directed, passed_directed}
use Rattle.correlate_plain.proofs.Turns.{term_size, cell-read, one, added, added_more}
use Rattle.correlate_plain.proofs.plain.add_row.Goals as goal

pub loop-i-init : goal.loop-i-init
loop-i-init c = pass_none (pos 0) _ _

pub overflow_mul-out : goal.overflow_mul-out
overflow_mul-out c = let v = c in let W = line-directed v.args.backward v.requires.0.line in
    (one W _ _ (cell-read W _) v.weight_at-weight.ensures).fits

pub overflow_add-out-in-loop-i : goal.overflow_add-out-in-loop-i
overflow_add-out-in-loop-i c = let v = c in let A = passed_directed v.args.backward v.requires.0 in let W = A.line in
    (added A _ c.loop-i.invariant c.loop-i-test.true (one W _ _ (cell-read W _) v.weight_at-weight.ensures) (term_size W _ _)).fits

pub loop-i-preserved : goal.loop-i-preserved
loop-i-preserved c = let v = c in let A = passed_directed v.args.backward v.requires.0 in let W = A.line in
    added_more A _ c.loop-i.invariant c.loop-i-test.true (one W _ _ (cell-read W _) v.weight_at-weight.ensures) (term_size W _ _) refl

pub returns : goal.returns
returns c = pass_all c.loop-i.invariant c.loop-i-test.false
