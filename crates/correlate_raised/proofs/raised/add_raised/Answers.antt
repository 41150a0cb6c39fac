-- `add_raised` meets its contract: from the row of starts, each turn adds the raised terms of four weights to the whole row, and then of
-- one; the last row has the plain sums. Assumes nothing.
use mathlib.Core.Path.{refl, ◌∙◌}
use Prim.Native.Nat.{◌+◌}
use native.Mathlib.Omega.{arith}
use Rattle.correlate_spec.proofs.Along.{row_made, row_length_lem, row_own, row_next}
use Rattle.direction.specs.Direction.{directed}
use Rattle.direction.proofs.Directed.{directed-length}
use Rattle.correlate_raised.specs.Raised.{raised_to}
use Rattle.correlate_raised.proofs.Directed.{raise_directed}
use Rattle.correlate_raised.proofs.RaisedStart.{raisable_kept}
use Rattle.correlate_raised_terms.specs.Products.{lowered}
use Rattle.correlate_raised.proofs.RaisedSums.{raised_begin, raised_end}
use borrow.Author.Rules.{rules}
use Rattle.correlate_raised.proofs.raised.add_raised.Goals as goal

pub loop-taken-init : goal.loop-taken-init
loop-taken-init c = (search rules, refl, raised_begin c.args.by (directed c.args.backward c.args.weights.now) (lowered c.args.line.now) _ c.requires.1)

pub add_four_raised_rows-requires : goal.add_four_raised_rows-requires
add_four_raised_rows-requires c = let r = c.loop-taken.invariant.2 in (raisable_kept (row_length_lem r) c.requires.0, search rules, row_own r)

pub loop-taken-preserved : goal.loop-taken-preserved
loop-taken-preserved c =
    let s = c in
    let l = c.loop-taken in
    let w = directed s.args.backward s.args.weights.now in
    (search rules, l.invariant.1, row_next l.invariant.2 {h = raised_to s.args.by w (lowered s.args.line.now) (l.taken + 4)} c.add_four_raised_rows.ensures)

pub loop-k-init : goal.loop-k-init
loop-k-init c = let l = c.loop-taken in (l.invariant.1, row_made _ _ l.invariant.2.is)

pub add_raised_row-requires : goal.add_raised_row-requires
add_raised_row-requires c =
    let r = c.loop-k.invariant.1 in
    (raisable_kept (row_length_lem r ∙ row_length_lem c.loop-taken.invariant.2) c.requires.0, search rules, row_own r)

pub loop-k-preserved : goal.loop-k-preserved
loop-k-preserved c =
    let s = c in
    let l = c.loop-k in
    let w = directed s.args.backward s.args.weights.now in
    (l.invariant.0, row_next l.invariant.1 {h = raised_to s.args.by w (lowered s.args.line.now) (l.k + 1)} c.add_raised_row.ensures)

pub shape_of-out : goal.shape_of-out
shape_of-out c = row_length_lem c.loop-k.invariant.1 ∙ row_length_lem c.loop-taken.invariant.2

pub returns : goal.returns
returns c =
    let s = c in
    let w = s.args.weights.now in
    let b = s.args.backward in
    raised_end s.args.by (directed b w) (lowered s.args.line.now) (raise_directed b s.requires.0) c.loop-k.invariant.1
    (omega (arith, directed-length b w, c.loop-taken.invariant.0)) (row_length_lem c.loop-taken.invariant.2)
