-- `pad_line::extension::extend_constant` meets its contract: the two rims are filled with the constant, which belongs there.
use mathlib.Core.Path.{refl, ap, ◌∙◌}
use native.Mathlib.Omega.{arith}
use lib.IntN.{ℤ, pos}
use Rattle.numbers.proofs.Read.{read}
use Rattle.border.specs.Border.{constant}
use Rattle.pad_line.proofs.Rims.{before_constant, after_constant, filled-middle, filled-all}
use Rattle.pad_line.specs.Line.{pad_middle}
use Rattle.pad_line.proofs.extension.extend_constant.Goals as goal

pub loop-i-preserved : goal.loop-i-preserved
loop-i-preserved c = before_constant c.loop-i.invariant (omega arith) _ (omega arith) refl

pub loop-j-init : goal.loop-j-init
loop-j-init c = filled-middle c.loop-i.invariant (omega arith) (omega arith)

pub loop-j-preserved : goal.loop-j-preserved
loop-j-preserved c = let f = c.loop-i.invariant.stored.kept in after_constant c.loop-j.invariant (omega arith) _ (omega arith) (omega arith) refl

pub returns : goal.returns
returns c =
    let a = c.args in
    let e = read c.ranges.c.sfits refl in
    filled-all c.loop-i.invariant (omega arith) (omega arith) a.right (omega arith) (omega arith) c.loop-j.invariant
    ∙ ap (λ (z : ℤ). pad_middle (pos 0) (constant z) a.left a.n a.right a.line.now) e
