-- `lower_row` meets its contract. The loop's invariant: `sum` is the sum of the cells that the windows before and at `i` share, and the
-- starts before `i` are stored. Assumes nothing.
use mathlib.Core.Path.{sym, ap, subst, ◌∙◌}
use Prim.Native.Nat.{◌-◌}
use native.Mathlib.Omega.{arith}
use lib.IntN.{pos}
use lib.ListN.{length}
use Rattle.numbers.specs.Sums.{sum_of}
use Rattle.numbers.proofs.Read.{read}
use Rattle.correlate_spec.specs.Sizes.{SumNeeds}
use Rattle.correlate_spec.proofs.Along.{pass_none, pass_more, pass_all}
use Rattle.correlate_spec.proofs.SlidingSum.{window_summable, sum_computed, left_computed, left-read}
use Rattle.correlate_raised.proofs.RaisedStart.{times_computed, lowered, lowered-read}
use Rattle.correlate_raised.proofs.raised_start.lower_row.Goals as goal

pub sum_of-sum-requires : goal.sum_of-sum-requires
sum_of-sum-requires c = let s = c in let W = s.requires.0.weighable in
    subst SumNeeds (sym c.window.ensures) (window_summable s.args.line.now W.cells _ _ (omega (arith, W.few)))

pub loop-i-init : goal.loop-i-init
loop-i-init c = (read c.sum_of-sum.type_inv (c.sum_of-sum.ensures ∙ ap sum_of c.window.ensures), pass_none (pos 0) _ _)

pub overflow_add-total-in-loop-i : goal.overflow_add-total-in-loop-i
overflow_add-total-in-loop-i c = let s = c in let l = c.loop-i in let W = s.requires.0.weighable in
    (sum_computed s.args.line.now W.cells (length s.args.weights.now - 1) l.i (omega (arith, W.few)) l.invariant.0 _).fits

pub overflow_mul-out : goal.overflow_mul-out
overflow_mul-out c = let s = c in let l = c.loop-i in
    (times_computed s.requires.0 l.i (record { fits = s.ranges.base; is = s.requires.1 }) l.invariant.0 _).fits

pub overflow_sub-out : goal.overflow_sub-out
overflow_sub-out c = let s = c in let l = c.loop-i in
    (lowered s.requires.0 l.i (record { fits = s.ranges.base; is = s.requires.1 }) l.invariant.0 _).fits

pub overflow_sub-sum : goal.overflow_sub-sum
overflow_sub-sum c = let s = c in let l = c.loop-i in let W = s.requires.0.weighable in
    (left_computed s.args.line.now W.cells (length s.args.weights.now - 1) l.i (omega (arith, W.few)) l.invariant.0 _ _).fits

pub loop-i-preserved : goal.loop-i-preserved
loop-i-preserved c = let s = c in let l = c.loop-i in let W = s.requires.0.weighable in (
  left-read s.args.line.now W.cells (length s.args.weights.now - 1) l.i (omega (arith, W.few)) l.invariant.0 (omega (arith, W.some, W.long)),
  pass_more l.invariant.1 c.loop-i-test.true (lowered-read s.requires.0 l.i (record { fits = s.ranges.base; is = s.requires.1 }) l.invariant.0 (omega arith)),
)

pub shape_of-out : goal.shape_of-out
shape_of-out c = c.loop-i.invariant.1.stored.kept

pub returns : goal.returns
returns c = pass_all c.loop-i.invariant.1 c.loop-i-test.false
