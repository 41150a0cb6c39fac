-- `plain_line` meets its contract: the row is begun, the passes by fours go on from there, and each turn adds the term of one weight that they left.
use mathlib.Core.Path.{refl, ◌∙◌}
use Prim.Native.Nat.{◌+◌}
use native.Mathlib.Omega.{arith}
use Rattle.direction.specs.Direction.{directed}
use Rattle.direction.proofs.Directed.{directed-length}
use Rattle.correlate_spec.specs.Weighed.{float_ops, plain_to}
use Rattle.correlate_spec.proofs.Along.{row_made, row_length_lem, row_own, row_next, plain_end}
use borrow.Author.Rules.{rules}
use Rattle.correlate_line_f64.proofs.plain_line.Goals as goal

pub add_fours-taken-requires : goal.add_fours-taken-requires
add_fours-taken-requires c =
    let q = c.start_rows-started.ensures in
    let e = c.start_rows-started.auto.out in
    (record { some = omega arith; long = omega arith }, q.0, row_own (row_made _ _ q.1))

pub loop-k-init : goal.loop-k-init
loop-k-init c = let q = c.add_fours-taken.ensures in (refl, row_made _ _ q.1)

pub add_row-requires : goal.add_row-requires
add_row-requires c =
    let r = c.loop-k.invariant.1 in
    let e = row_length_lem r ∙ c.add_fours-taken.auto.out
    ∙ c.start_rows-started.auto.out in
    (record { some = omega arith; long = omega arith }, search rules, row_own r)

pub loop-k-preserved : goal.loop-k-preserved
loop-k-preserved c =
    let a = c.args in
    let l = c.loop-k in
    (l.invariant.0, row_next l.invariant.1 {h = plain_to float_ops (directed a.backward a.weights.now) a.line.now (l.k + 1)} c.add_row.ensures)

pub shape_of-out : goal.shape_of-out
shape_of-out c = row_length_lem c.loop-k.invariant.1 ∙ c.add_fours-taken.auto.out
    ∙ c.start_rows-started.auto.out

pub returns : goal.returns
returns c =
    let a = c.args in
    plain_end float_ops (directed a.backward a.weights.now) a.line.now c.loop-k.invariant.1 (omega (arith, directed-length a.backward a.weights.now, c.add_fours-taken.ensures.0))
    (c.add_fours-taken.auto.out
    ∙ c.start_rows-started.auto.out)
