-- `copy_steps_f64` meets its contract, by the laws of StepByStep: the cells are stored one after the other, and none of them is read later.
use lib.Ieee.{nan}
use Rattle.pad_line.proofs.StepByStep.{StepStored}
use Rattle.pad_line.proofs.steps.copy_steps_f64.Given as goal

abbrev pub invariant-loop-j : goal.invariant-loop-j
invariant-loop-j l = StepStored nan l.up l.down l.from l.at l.initial.out l.out l.j
