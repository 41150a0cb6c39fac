-- `add_threes` meets its contract: each turn adds the terms of three pairs to the whole row.
use Prim.Native.Nat.{◌+◌}
use native.Mathlib.Omega.{arith}
use Rattle.direction.specs.Direction.{directed}
use Rattle.correlate_spec.specs.Weighed.{float_ops, pairs_to}
use Rattle.correlate_spec.proofs.Along.{row_length_lem, row_own, row_next}
use Rattle.correlate_spec.specs.Joined.{joined_by}
use Rattle.correlate_pairs_f64.proofs.pairs.add_threes.Goals as goal

pub loop-left-init : goal.loop-left-init
loop-left-init c = (omega arith, omega arith, record { is = c.requires.2 })

pub add_three_pairs-requires : goal.add_three_pairs-requires
add_three_pairs-requires c =
    let v = c.loop-left.invariant in
    let e = row_length_lem v.2 in
    (record { some = omega arith; long = omega arith }, omega arith, v.1, row_own v.2)

pub loop-left-preserved : goal.loop-left-preserved
loop-left-preserved c =
    let a = c.args in
    let l = c.loop-left in (
      omega arith,
      omega arith,
      row_next l.invariant.2 {h = pairs_to float_ops (joined_by float_ops a.minus) (directed a.backward a.weights.now) a.line.now (l.left + 3)}
          c.add_three_pairs.ensures,
    )

pub shape_of-out : goal.shape_of-out
shape_of-out c = row_length_lem c.loop-left.invariant.2

pub returns : goal.returns
returns c = (c.loop-left.invariant.0, c.loop-left.invariant.2.is)
