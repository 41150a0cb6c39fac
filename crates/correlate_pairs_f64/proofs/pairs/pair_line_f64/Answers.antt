-- `pair_line_f64` meets its contract: from the row of the middle cells and the outermost pairs, the passes by threes go on, and each turn adds the term of one
-- pair that they left. A single weight has no pair.
use mathlib.Core.Path.{◌≡◌, refl, ap, ◌∙◌}
use Prim.Native.Nat.{ℕ, ◌+◌, ◌/◌, ◌<◌}
use mathlib.Core.List.{List}
use native.Mathlib.Omega.{arith}
use lib.Ieee.{Float}
use lib.ListN.{length}
use Rattle.numbers.specs.Lists.{tabulate}
use Rattle.direction.specs.Direction.{directed}
use Rattle.direction.proofs.Directed.{directed-length}
use Rattle.correlate_spec.specs.Weighed.{float_ops, cell_term, pairs_to, pairs_at}
use Rattle.correlate_spec.proofs.Along.{Row, row_made, row_length_lem, row_own, row_next, pairs_start, pairs_end}
use Rattle.correlate_spec.specs.Joined.{joined_by}
use borrow.Author.Rules.{rules}
use Rattle.correlate_pairs_f64.proofs.pairs.pair_line_f64.Goals as goal

-- a single weight: its term is the sum
single : (w s : List Float) (op : Float → Float → Float) (n : ℕ) {l : List Float} → length w < 2 → l ≡ tabulate (λ i. cell_term float_ops w s i 0) 0 n → l ≡ tabulate (pairs_at float_ops op w s) 0 n
single w s op n {l} b e = pairs_end float_ops w s op (pairs_start float_ops w s op n (e ∙ ap (λ j. tabulate (λ i. cell_term float_ops w s i j) 0 n) zero)) zero (row_length_lem r)
  where
    zero : 0 ≡ length w / 2
    zero = omega arith

    r : Row (λ i. cell_term float_ops w s i 0) n l
    r = record { is = e }

pub returns-then-count-lt2 : goal.returns-then-count-lt2
returns-then-count-lt2 c =
    let a = c.args in
    let w = directed a.backward a.weights.now in
    single w a.line.now (joined_by float_ops a.minus) (length a.out.now) (omega (arith, directed-length a.backward a.weights.now)) c.set_row.ensures

pub add_threes-left-requires : goal.add_threes-left-requires
add_threes-left-requires c =
    let e = c.start_pairs.auto.out in
    (record { some = omega arith; long = omega arith }, search rules, row_own (row_made _ _ c.start_pairs.ensures))

pub overflow_sub-right-2 : goal.overflow_sub-right-2
overflow_sub-right-2 c = let b = c.add_threes-left.ensures.0 in omega arith

pub loop-left-init : goal.loop-left-init
loop-left-init c = let q = c.add_threes-left.ensures in (q.0, refl, omega (arith, q.0), row_made _ _ q.1)

pub add_pairs-requires : goal.add_pairs-requires
add_pairs-requires c =
    let v = c.loop-left.invariant in
    let e = row_length_lem v.3 ∙ c.add_threes-left.auto.out
    ∙ c.start_pairs.auto.out in
    (record { some = omega arith; long = omega arith }, omega arith, v.2, row_own v.3)

pub loop-left-preserved : goal.loop-left-preserved
loop-left-preserved c =
    let a = c.args in
    let l = c.loop-left in (
      omega arith,
      l.invariant.1,
      omega arith,
      row_next l.invariant.3 {h = pairs_to float_ops (joined_by float_ops a.minus) (directed a.backward a.weights.now) a.line.now (l.left + 1)}
          c.add_pairs.ensures,
    )

pub shape_of-out : goal.shape_of-out
shape_of-out c = row_length_lem c.loop-left.invariant.3 ∙ c.add_threes-left.auto.out
    ∙ c.start_pairs.auto.out

pub returns : goal.returns
returns c =
    let a = c.args in
    pairs_end float_ops (directed a.backward a.weights.now) a.line.now (joined_by float_ops a.minus) c.loop-left.invariant.3
    (omega (arith, directed-length a.backward a.weights.now))
    (c.add_threes-left.auto.out
    ∙ c.start_pairs.auto.out)
