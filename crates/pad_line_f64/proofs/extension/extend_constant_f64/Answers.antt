-- `pad_line_f64::extension::extend_constant_f64` meets its contract: the two rims are filled with the constant, which belongs there.
use mathlib.Core.Path.{refl}
use native.Mathlib.Omega.{arith}
use Rattle.pad_line.proofs.Rims.{before_constant, after_constant, filled-middle, filled-all}
use Rattle.pad_line_f64.proofs.extension.extend_constant_f64.Goals as goal

pub loop-i-preserved : goal.loop-i-preserved
loop-i-preserved c = before_constant c.loop-i.invariant (omega arith) _ (omega arith) refl

pub loop-j-init : goal.loop-j-init
loop-j-init c = filled-middle c.loop-i.invariant (omega arith) (omega arith)

pub loop-j-preserved : goal.loop-j-preserved
loop-j-preserved c = let f = c.loop-i.invariant.stored.kept in after_constant c.loop-j.invariant (omega arith) _ (omega arith) (omega arith) refl

pub returns : goal.returns
returns c = filled-all c.loop-i.invariant (omega arith) (omega arith) c.args.right (omega arith) (omega arith) c.loop-j.invariant
