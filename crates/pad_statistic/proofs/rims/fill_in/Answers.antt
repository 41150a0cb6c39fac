-- `fill_in` meets its contract: what one axis leaves is where the next starts.
use mathlib.Core.Path.{◌∙◌}
use Prim.Native.Nat.{◌-◌}
use native.Mathlib.Omega.{arith}
use Rattle.pad_spec.proofs.Fills.{fills_then, fills_last}
use borrow.Author.Rules.{rules}
use Rattle.pad_statistic.proofs.rims.fill_in.Goals as goal

pub loop-axis-init : goal.loop-axis-init
loop-axis-init c = (λ cells A. A, c.requires.1, c.requires.2)

pub loop-axis-preserved : goal.loop-axis-preserved
loop-axis-preserved c =
    let L = c.loop-axis in
    let f = c.fill_axis in
    (fills_then L.invariant.0 f.ensures, f.auto.line ∙ L.invariant.1, f.auto.out ∙ L.invariant.2)

pub returns : goal.returns
returns c = fills_last (omega arith) c.loop-axis.invariant.0
