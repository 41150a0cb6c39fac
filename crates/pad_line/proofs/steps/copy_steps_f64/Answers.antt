-- `copy_steps_f64` meets its contract, by the laws of StepByStep: the cells are stored one after the other, and none of them is read later.
use mathlib.Core.Path.{refl}
use native.Mathlib.Omega.{arith}
use lib.Ieee.{nan}
use Rattle.pad_line.proofs.StepByStep.{step-all, step-more}
use Rattle.pad_line.proofs.steps.copy_steps_f64.Goals as goal

pub loop-j-preserved : goal.loop-j-preserved
loop-j-preserved c = step-more nan _ c.requires c.loop-j-test.true refl refl c.loop-j.invariant

pub returns : goal.returns
returns c = step-all nan c.args.count (omega arith) c.loop-j.invariant
