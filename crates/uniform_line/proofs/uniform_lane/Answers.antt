-- `uniform_lane` meets its contract. The loop's invariant: `sum` is the sum of the cells that the windows before and at `i` share, and the means
-- before `i` are written to the lane.
use mathlib.Core.Path.{sym, ap, subst, ◌∙◌}
use Prim.Native.Nat.{◌+◌, ◌*◌, ◌-◌, ◌<◌}
use native.Mathlib.Omega.{arith}
use lib.IntN.{pos}
use lib.ListN.{length}
use Rattle.numbers.specs.Sums.{sum_of}
use Rattle.numbers.proofs.Read.{read}
use Rattle.lanes.proofs.Cells.{index_in}
use Rattle.lanes.proofs.Stores.{written_none}
use Rattle.correlate_spec.specs.Sizes.{SumNeeds}
use Rattle.correlate_spec.proofs.SlidingSum.{window_summable, sum_computed, left_computed, left-read}
use Rattle.uniform_line.proofs.Sliding.{cells, mean_read}
use Rattle.uniform_line.proofs.OnLane.{means-more, means-all}
use borrow.Author.Rules.{rules}
use Rattle.uniform_line.proofs.uniform_lane.Goals as goal

pub sum_of-sum-requires : goal.sum_of-sum-requires
sum_of-sum-requires c =
    let s = c in
    subst SumNeeds (sym c.window.ensures) (window_summable s.args.line.now (cells s.requires.0) _ _ (omega (arith, s.requires.0.few)))

pub loop-i-init : goal.loop-i-init
loop-i-init c = (read c.sum_of-sum.type_inv (c.sum_of-sum.ensures ∙ ap sum_of c.window.ensures), written_none (pos 0) _ _ _ _)

pub overflow_add-total-in-loop-i : goal.overflow_add-total-in-loop-i
overflow_add-total-in-loop-i c =
    let s = c in
    let l = c.loop-i in
    (sum_computed s.args.line.now (cells s.requires.0) (s.args.size - 1) l.i (omega (arith, s.requires.0.few)) l.invariant.0 _).fits

pub overflow_mul-at : goal.overflow_mul-at
overflow_mul-at c = omega (arith, (let at_in : let s = c in s.args.base + c.loop-i.i * s.args.stride < length s.args.out.now = let s = c in index_in s.args.base s.args.stride (length s.args.out.now) c.loop-i-test.true s.requires.4 in at_in))

pub overflow_add-at : goal.overflow_add-at
overflow_add-at c = omega (arith, (let at_in : let s = c in s.args.base + c.loop-i.i * s.args.stride < length s.args.out.now = let s = c in index_in s.args.base s.args.stride (length s.args.out.now) c.loop-i-test.true s.requires.4 in at_in))

pub offset_bounds-out-at : goal.offset_bounds-out-at
offset_bounds-out-at c = omega (arith, (let at_in : let s = c in s.args.base + c.loop-i.i * s.args.stride < length s.args.out.now = let s = c in index_in s.args.base s.args.stride (length s.args.out.now) c.loop-i-test.true s.requires.4 in at_in))

pub bounds-out-at : goal.bounds-out-at
bounds-out-at c = omega (arith, (let at_in : let s = c in s.args.base + c.loop-i.i * s.args.stride < length s.args.out.now = let s = c in index_in s.args.base s.args.stride (length s.args.out.now) c.loop-i-test.true s.requires.4 in at_in), c.loop-i.invariant.1.stored.kept)

pub overflow_sub-sum : goal.overflow_sub-sum
overflow_sub-sum c =
    let s = c in
    let l = c.loop-i in
    (left_computed s.args.line.now (cells s.requires.0) (s.args.size - 1) l.i (omega (arith, s.requires.0.few)) l.invariant.0 _ _).fits

pub loop-i-preserved : goal.loop-i-preserved
loop-i-preserved c =
    let s = c in
    let l = c.loop-i in (
      left-read s.args.line.now (cells s.requires.0) (s.args.size - 1) l.i (omega (arith, s.requires.0.few)) l.invariant.0 (omega (arith, s.requires.0.some, s.requires.0.long)),
      means-more s.args.line.now s.args.size s.args.n _ s.requires.2 s.requires.3 (search rules) ((let at_in : let s = c in s.args.base + c.loop-i.i * s.args.stride < length s.args.out.now = let s = c in index_in s.args.base s.args.stride (length s.args.out.now) c.loop-i-test.true s.requires.4 in at_in))
          (read c.cut_mean-mean.type_inv (c.cut_mean-mean.ensures ∙ mean_read s.requires.0 l.i (omega arith) l.invariant.0)) l.invariant.1,
    )

pub shape_of-out : goal.shape_of-out
shape_of-out c = c.loop-i.invariant.1.stored.kept

pub returns : goal.returns
returns c = let s = c in means-all s.args.line.now s.args.size s.args.n s.requires.1 (omega arith) c.loop-i.invariant.1
