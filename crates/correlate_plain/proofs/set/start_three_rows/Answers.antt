-- `start_three_rows` meets its contract: the row is filled from the front with sums of three terms, which fit. x0 and x1 are the first two cells of the window
-- that is next.
use mathlib.Core.Path.{◌∙◌}
use Prim.Native.Nat.{◌+◌}
use native.Mathlib.Omega.{arith}
use lib.IntN.{pos}
use Rattle.direction.specs.Direction.{directed}
use Rattle.correlate_spec.proofs.Along.{pass_none, pass_more, pass_all}
use Rattle.correlate_spec.proofs.Computed.{computed_read}
use Rattle.correlate_plain.proofs.Directed.{line-directed}
use Rattle.correlate_plain.proofs.Turns.{cell-read, one, two, three, first_three, cell_at}
use Rattle.correlate_plain.proofs.set.start_three_rows.Goals as goal

pub bounds-line-0 : goal.bounds-line-0
bounds-line-0 c = omega (arith, c.requires.0.long)

pub bounds-line-1 : goal.bounds-line-1
bounds-line-1 c = omega (arith, c.requires.0.long)

pub loop-i-init : goal.loop-i-init
loop-i-init c = let W = c.requires.0 in (cell-read W 0, cell-read W 1, pass_none (pos 0) _ _)

pub overflow_mul-out : goal.overflow_mul-out
overflow_mul-out c = let g = c in let s = g in let W = line-directed s.args.backward s.requires.0 in
    (one W _ _ c.loop-i.invariant.0 g.weight_at-w0.ensures).fits

pub overflow_mul-out-in-loop-i : goal.overflow_mul-out-in-loop-i
overflow_mul-out-in-loop-i c = let g = c in let s = g in let W = line-directed s.args.backward s.requires.0 in
    (one W _ _ c.loop-i.invariant.1 g.weight_at-w1.ensures).fits

pub overflow_add-out : goal.overflow_add-out
overflow_add-out c = let g = c in let s = g in let v = c.loop-i.invariant in
    let W = line-directed s.args.backward s.requires.0 in
    (two W _ _ _ _ v.0 v.1 g.weight_at-w0.ensures g.weight_at-w1.ensures).fits

pub overflow_mul-out-in-loop-i-2 : goal.overflow_mul-out-in-loop-i-2
overflow_mul-out-in-loop-i-2 c = let g = c in let s = g in let W = line-directed s.args.backward s.requires.0 in
    (one W _ _ (cell-read W _) g.weight_at-w2.ensures).fits

pub overflow_add-out-in-loop-i : goal.overflow_add-out-in-loop-i
overflow_add-out-in-loop-i c = let g = c in let s = g in let v = c.loop-i.invariant in
    let W = line-directed s.args.backward s.requires.0 in
    (three W _ _ _ _ v.0 v.1 g.weight_at-w0.ensures g.weight_at-w1.ensures _ _ (cell-read W _) g.weight_at-w2.ensures).fits

pub loop-i-preserved : goal.loop-i-preserved
loop-i-preserved c = let g = c in let s = g in let l = c.loop-i in let v = l.invariant in
    let W = line-directed s.args.backward s.requires.0 in let i = l.i in let line = s.args.line.now in (
      v.1,
      cell_at line (i + 2) (i + 1 + 1) (cell-read W _) (omega arith),
      pass_more v.2 c.loop-i-test.true
          (computed_read (three W _ _ _ _ v.0 v.1 g.weight_at-w0.ensures g.weight_at-w1.ensures _ _ (cell-read W _) g.weight_at-w2.ensures)
          ∙ first_three (directed s.args.backward s.args.weights.now) line i),
    )

pub returns : goal.returns
returns c = pass_all c.loop-i.invariant.2 c.loop-i-test.false
