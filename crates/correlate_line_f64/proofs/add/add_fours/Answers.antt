-- `add_fours` meets its contract: each turn adds the terms of four weights to the whole row.
use mathlib.Core.Path.{refl}
use Prim.Native.Nat.{◌+◌}
use native.Mathlib.Omega.{arith}
use Rattle.direction.specs.Direction.{directed}
use Rattle.correlate_spec.specs.Weighed.{float_ops, plain_to}
use Rattle.correlate_spec.proofs.Along.{row_length_lem, row_own, row_next}
use borrow.Author.Rules.{rules}
use Rattle.correlate_line_f64.proofs.add.add_fours.Goals as goal

pub loop-k-init : goal.loop-k-init
loop-k-init c = let s = c in (s.requires.1, refl, record { is = s.requires.2 })

pub add_four_rows-requires : goal.add_four_rows-requires
add_four_rows-requires c =
    let r = c.loop-k.invariant.2 in
    let e = row_length_lem r in
    (record { some = omega arith; long = omega arith }, search rules, row_own r)

pub loop-k-preserved : goal.loop-k-preserved
loop-k-preserved c =
    let l = c.loop-k in
    let a = c.args in
    (search rules, l.invariant.1, row_next l.invariant.2 {h = plain_to float_ops (directed a.backward a.weights.now) a.line.now (l.k + 4)} c.add_four_rows.ensures)

pub shape_of-out : goal.shape_of-out
shape_of-out c = row_length_lem c.loop-k.invariant.2

pub returns : goal.returns
returns c = (search rules, c.loop-k.invariant.2.is)
