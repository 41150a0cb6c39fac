-- `axis_from` meets its contract: a missing axis, and one that is there.
use mathlib.Core.Path.{sym, ◌∙◌}
use borrow.Author.Tests.{le-leb, lt-leb}
use native.Mathlib.Omega.{arith}
use lib.ListN.{length}
use Prim.Native.Nat.{ℕ}
use Rattle.numbers.proofs.Tests.{cond_yes, cond_no}
use Rattle.correlate_grid_axes.specs.declared.axes.Axis.{Axis}
use Rattle.correlate_grid_axes.proofs.axes.axis_from.Goals as goal

pub returns-then-axes-back : goal.returns-then-axes-back
returns-then-axes-back c = let a = c.args in sym (cond_yes _ _ _ (le-leb (length a.shape.now) a.back (omega arith)))

pub returns : goal.returns
returns c = let a = c.args in
    let made : (n : ℕ) → Axis = λ n. record { len = n; left = a.left; right = a.right; side = a.side } in
    (λ j. made (c.len_of-len.ensures j)) ∙ sym (cond_no _ _ _ (lt-leb (length a.shape.now) a.back (omega arith)))
