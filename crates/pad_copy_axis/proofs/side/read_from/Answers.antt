-- `read_from` meets its contract, before the lane's own cells and after them; no sum wraps.
use mathlib.Core.Path.{sym, ap, ◌∙◌}
use Prim.Native.Nat.{◌+◌, ◌-◌, ◌≤◌}
use native.Mathlib.Omega.{arith}
use borrow.Author.Tests.{lt-ltb, le-ltb}
use Rattle.numbers.proofs.Tests.{cond_yes, cond_no}
use Rattle.pad_copy_axis.proofs.CopiedRims.{rim_below, rim_after, before_small, after_small}
use Rattle.pad_copy_axis.proofs.side.read_from.Goals as goal
use Rattle.pad_copy_axis.proofs.side.read_from.Goals.{Else-k-left}

pub overflow_add-result : goal.overflow_add-result
overflow_add-result c =
    let a = c.args in
    omega (arith, before_small a.mode a.n (a.left - a.k), c.cell_before.ensures)

pub returns-then-k-left : goal.returns-then-k-left
returns-then-k-left c =
    let a = c.args in
    ap (λ x. a.left + x) c.cell_before.ensures ∙ sym (cond_yes _ _ _ (lt-ltb a.k a.left c.if-k-left.true))

-- the place is after the lane's own cells
after : (c : Else-k-left) → c.args.left + c.args.n ≤ c.args.k
after c = rim_after c.args.n c.requires.2 c.if-k-left.false

pub overflow_add-k : goal.overflow_add-k
overflow_add-k c = omega (arith, rim_below c.args.n c.requires.2 c.requires.0)

pub overflow_sub-k : goal.overflow_sub-k
overflow_sub-k c = omega (arith, after c)

pub overflow_add-result-2 : goal.overflow_add-result-2
overflow_add-result-2 c =
    let s = c in
    let a = s.args in
    omega (arith, after_small a.mode a.n (a.k + 1 - (a.left + a.n)), c.cell_after.ensures, rim_below a.n s.requires.2 s.requires.0)

pub returns : goal.returns
returns c =
    let a = c.args in
    ap (λ x. a.left + x) c.cell_after.ensures ∙ sym (cond_no _ _ _ (le-ltb a.k a.left c.if-k-left.false))
