-- `sum_of` meets its contract. The loop's invariant: `sum` is the sum of the first `z-index` cells.
use mathlib.Core.Path.{sym, ap, ◌∙◌}
use native.Mathlib.Nat.{zero-add}
use native.Mathlib.Omega.{arith}
use mir.Syntax.{w64}
use lib.IntN.{pos, ◌+ℤ◌}
use lib.ListN.{get_or}
use mir.Val.{to_z}
use Rattle.numbers.specs.Sums.{sum_of}
use Rattle.numbers.proofs.Window.{window-whole}
use Rattle.correlate_spec.specs.WindowSum.{window_sum}
use Rattle.correlate_spec.proofs.Computed.{read}
use Rattle.correlate_spec.proofs.Sliding.{sum-none}
use Rattle.correlate_spec.proofs.SlidingSum.{sum_computed, total-read}
use Rattle.correlate_plain.proofs.sums.sum_of.Goals as goal

pub loop-z-init : goal.loop-z-init
loop-z-init c = sym (sum-none c.args.cells.now 0)

pub overflow_add-sum : goal.overflow_add-sum
overflow_add-sum c =
    let l = c.loop-z in
    (sum_computed c.args.cells.now c.requires.cells l.z-index 0 (omega (arith, c.requires.few)) l.invariant l.z-index).fits

pub loop-z-preserved : goal.loop-z-preserved
loop-z-preserved c =
    let l = c.loop-z in
    let s = c.args.cells.now in
    ap (λ m. read (to_z w64 l.sum-bits +ℤ read (get_or s m (pos 0)))) (sym (zero-add l.z-index))
    ∙ total-read s c.requires.cells l.z-index 0 (omega (arith, c.requires.few)) l.invariant (omega arith)

pub returns : goal.returns
returns c =
    let l = c.args.cells.now in
    c.loop-z.invariant ∙ ap (λ m. window_sum l m 0) (omega arith) ∙ ap sum_of (window-whole l)
