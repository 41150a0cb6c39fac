-- `set_line` meets its contract: from a row that is begun, each turn adds the term of one weight to the whole row.
use mathlib.Core.Path.{refl}
use native.Mathlib.Omega.{arith}
use Rattle.direction.specs.Direction.{directed}
use Rattle.direction.proofs.Directed.{directed-length}
use Rattle.correlate_spec.specs.Weighed.{whole_ops, cell_term}
use Rattle.correlate_spec.proofs.Along.{row_made, plain_end}
use Rattle.correlate_spec.proofs.Terms.{weighable_kept}
use Rattle.correlate_plain.proofs.Passes.{row_plus, one-term, set_passed}
use borrow.Author.Rules.{rules}
use Rattle.correlate_plain.proofs.set.set_line.Goals as goal

pub loop-k-init : goal.loop-k-init
loop-k-init c = (refl, row_made _ _ c.start_rows-taken.ensures.1)

pub add_row-requires : goal.add_row-requires
add_row-requires c =
    let v = c.loop-k.invariant in
    let s = c in
    let W = weighable_kept c.start_rows-taken.auto.out s.requires in
    (set_passed s.args.backward W (omega (arith, c.start_rows-taken.ensures.0)) v.1, search rules)

pub loop-k-preserved : goal.loop-k-preserved
loop-k-preserved c =
    let a = c.args in
    let l = c.loop-k in
    let w = directed a.backward a.weights.now in
    let line = a.line.now in
    (refl, row_plus l.invariant.1 (λ i. cell_term whole_ops w line i l.k) (one-term w line l.k) c.add_row.ensures)

pub returns : goal.returns
returns c =
    let a = c.args in
    plain_end whole_ops (directed a.backward a.weights.now) a.line.now c.loop-k.invariant.1 (omega (arith, directed-length a.backward a.weights.now, c.start_rows-taken.ensures.0))
    c.start_rows-taken.auto.out
