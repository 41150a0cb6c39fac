-- `copy_axes` meets its contract: what one axis leaves is where the next starts.
use mathlib.Core.Path.{◌∙◌}
use Prim.Native.Nat.{◌-◌}
use native.Mathlib.Omega.{arith}
use Rattle.pad_spec.proofs.Fills.{fills_then, fills_last}
use borrow.Author.Rules.{rules}
use Rattle.pad_copy.proofs.runs.copy_axes.Goals as goal

pub loop-axis-init : goal.loop-axis-init
loop-axis-init c = (λ cells A. A, c.requires.1)

pub loop-axis-preserved : goal.loop-axis-preserved
loop-axis-preserved c =
    let L = c.loop-axis in
    (fills_then L.invariant.0 c.copy_axis.ensures, c.copy_axis.auto.out ∙ L.invariant.1)

pub returns : goal.returns
returns c = fills_last (omega arith) c.loop-axis.invariant.0
