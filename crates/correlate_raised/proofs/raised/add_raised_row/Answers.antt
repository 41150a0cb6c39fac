-- `add_raised_row` meets its contract: along the row, each cell gets its next raised term; terms and sum fit.
use native.Mathlib.Omega.{arith}
use lib.IntN.{pos}
use borrow.Author.Rules.{rules}
use Rattle.numbers.proofs.Size.{fits_size}
use Rattle.correlate_spec.proofs.Along.{pass_none, pass_all}
use Rattle.correlate_spec.proofs.Computed.{size_pos}
use Rattle.direction.proofs.Directed.{directed-length}
use Rattle.correlate_raised.proofs.Directed.{raise_directed}
use Rattle.correlate_raised_terms.proofs.RaisedCells.{length-lowered}
use Rattle.correlate_raised.proofs.RaisedTurns.{more_fits, raised_more, one-term}
use Rattle.correlate_raised.proofs.raised.add_raised_row.Goals as goal

pub loop-i-init : goal.loop-i-init
loop-i-init c = pass_none (pos 0) _ _

pub raised_term-requires : goal.raised_term-requires
raised_term-requires c = search (rules, length-lowered c.args.line.now)

pub overflow_cast-out : goal.overflow_cast-out
overflow_cast-out c = fits_size (size_pos _) (omega arith)

pub overflow_add-out : goal.overflow_add-out
overflow_add-out c = let s = c in let b = s.args.backward in let t = c.raised_term in
    more_fits (raise_directed b s.requires.0) s.args.j 1 (omega (arith, directed-length b s.args.weights.now)) s.requires.2 c.loop-i.invariant
    c.loop-i-test.true t.result (omega (arith, t.ensures.1))

pub loop-i-preserved : goal.loop-i-preserved
loop-i-preserved c = let s = c in let b = s.args.backward in let j = s.args.j in let l = c.loop-i in let t = c.raised_term.ensures in
    raised_more (raise_directed b s.requires.0) j 1 (omega (arith, directed-length b s.args.weights.now)) s.requires.2 l.invariant c.loop-i-test.true
    (one-term l.i j c.raised_weight-weight.ensures t.0 t.1)

pub shape_of-out : goal.shape_of-out
shape_of-out c = c.loop-i.invariant.stored.kept

pub returns : goal.returns
returns c = pass_all c.loop-i.invariant c.loop-i-test.false
