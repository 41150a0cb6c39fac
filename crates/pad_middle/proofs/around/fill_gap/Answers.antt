-- `fill_gap` meets its contract: the places of the gap are stored one after the other.
use mathlib.Core.Path.{refl, ap, ◌∙◌}
use Prim.Native.Nat.{◌-◌}
use native.Mathlib.Omega.{arith}
use borrow.Author.Rules.{rules}
use mir.Facts.{to_z-of_z}
use mir.Syntax.{w64}
use Rattle.pad_middle.specs.Around.{gap_set}
use Rattle.pad_middle.proofs.Gaps.{gap_none, gap_more, gap_all}
use Rattle.pad_middle.proofs.around.fill_gap.Goals as goal

pub loop-k-init : goal.loop-k-init
loop-k-init c = (λ h. omega arith, gap_none _ _ _)

pub loop-k-preserved : goal.loop-k-preserved
loop-k-preserved c = (λ h. omega (arith, c.loop-k-test.true), gap_more _ (omega arith) (omega (arith, c.loop-k-test.true, c.requires)) refl c.loop-k.invariant.1)

pub returns : goal.returns
returns c =
    let a = c.args in
    gap_all a.to c.loop-k.invariant.0 (omega arith) c.loop-k.invariant.1 ∙ ap (λ z. gap_set z a.from a.to a.out.now) (to_z-of_z {w = w64} c.ranges.level)
