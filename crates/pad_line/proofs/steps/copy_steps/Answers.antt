-- `copy_steps` meets its contract, by the laws of StepByStep: the cells are stored one after the other, and none of them is read later.
use mathlib.Core.Path.{refl}
use native.Mathlib.Omega.{arith}
use borrow.Author.Rules.{rules}
use lib.IntN.{pos}
use Rattle.numbers.proofs.Read.{read}
use Rattle.pad_line.proofs.StepByStep.{step-all, step-more}
use Rattle.pad_line.proofs.steps.copy_steps.Goals as goal

pub loop-j-preserved : goal.loop-j-preserved
loop-j-preserved c = step-more (pos 0) _ c.requires c.loop-j-test.true refl (read (search rules) refl) c.loop-j.invariant

pub returns : goal.returns
returns c = step-all (pos 0) c.args.count (omega arith) c.loop-j.invariant
