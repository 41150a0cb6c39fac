-- `add_three_rows` meets its contract: along the row, each cell gets the terms of three weights; terms and sums fit. x0 and x1 are the first two cells of the
-- window that is next.
use Prim.Native.Nat.{◌+◌}
use native.Mathlib.Omega.{arith}
use lib.IntN.{pos}
use Rattle.direction.specs.Direction.{directed}
use Rattle.correlate_spec.proofs.Along.{pass_none, pass_all}
use Rattle.correlate_plain.proofs.Directed.{line-directed, passed_directed}
use Rattle.correlate_plain.proofs.Turns.{cell-read, one, two, three, three_size, three-places, cell_at, added, added_more}
use Rattle.correlate_plain.proofs.plain.add_three_rows.Goals as goal

pub bounds-line-j : goal.bounds-line-j
bounds-line-j c = omega (arith, c.requires.0.line.long)

pub bounds-line-j-2 : goal.bounds-line-j-2
bounds-line-j-2 c = omega (arith, c.requires.0.line.long)

pub loop-i-init : goal.loop-i-init
loop-i-init c = let s = c in let W = s.requires.0.line in let l = s.args.line.now in let j = s.args.j in
    (cell_at l j (0 + j) (cell-read W j) (omega arith), cell_at l (j + 1) (0 + j + 1) (cell-read W (j + 1)) (omega arith), pass_none (pos 0) _ _)

pub overflow_mul-out : goal.overflow_mul-out
overflow_mul-out c = let g = c in let s = g in let W = line-directed s.args.backward s.requires.0.line in
    (one W _ _ c.loop-i.invariant.0 g.weight_at-w0.ensures).fits

pub overflow_mul-out-in-loop-i : goal.overflow_mul-out-in-loop-i
overflow_mul-out-in-loop-i c = let g = c in let s = g in let W = line-directed s.args.backward s.requires.0.line in
    (one W _ _ c.loop-i.invariant.1 g.weight_at-w1.ensures).fits

pub overflow_add-out : goal.overflow_add-out
overflow_add-out c = let g = c in let s = g in let v = c.loop-i.invariant in
    let W = line-directed s.args.backward s.requires.0.line in
    (two W _ _ _ _ v.0 v.1 g.weight_at-w0.ensures g.weight_at-w1.ensures).fits

pub overflow_mul-out-in-loop-i-2 : goal.overflow_mul-out-in-loop-i-2
overflow_mul-out-in-loop-i-2 c = let g = c in let s = g in let W = line-directed s.args.backward s.requires.0.line in
    (one W _ _ (cell-read W _) g.weight_at-w2.ensures).fits

pub overflow_add-out-in-loop-i : goal.overflow_add-out-in-loop-i
overflow_add-out-in-loop-i c = let g = c in let s = g in let v = c.loop-i.invariant in
    let W = line-directed s.args.backward s.requires.0.line in
    (three W _ _ _ _ v.0 v.1 g.weight_at-w0.ensures g.weight_at-w1.ensures _ _ (cell-read W _) g.weight_at-w2.ensures).fits

pub overflow_add-out-in-loop-i-2 : goal.overflow_add-out-in-loop-i-2
overflow_add-out-in-loop-i-2 c = let g = c in let s = g in let v = c.loop-i.invariant in
    let A = passed_directed s.args.backward s.requires.0 in let W = A.line in
    (added A _ v.2 c.loop-i-test.true
    (three W _ _ _ _ v.0 v.1 g.weight_at-w0.ensures g.weight_at-w1.ensures _ _ (cell-read W _) g.weight_at-w2.ensures) (three_size W _ _ _ _ _ _)).fits

pub loop-i-preserved : goal.loop-i-preserved
loop-i-preserved c = let g = c in let s = g in let l = c.loop-i in let v = l.invariant in
    let A = passed_directed s.args.backward s.requires.0 in let W = A.line in let i = l.i in let j = s.args.j in let line = s.args.line.now in (
      cell_at line (i + j + 1) (i + 1 + j) v.1 (omega arith),
      cell_at line (i + j + 2) (i + 1 + j + 1) (cell-read W _) (omega arith),
      added_more A _ v.2 c.loop-i-test.true
          (three W _ _ _ _ v.0 v.1 g.weight_at-w0.ensures g.weight_at-w1.ensures _ _ (cell-read W _) g.weight_at-w2.ensures)
          (three_size W _ _ _ _ _ _) (three-places (directed s.args.backward s.args.weights.now) line i j),
    )

pub returns : goal.returns
returns c = pass_all c.loop-i.invariant.2 c.loop-i-test.false
