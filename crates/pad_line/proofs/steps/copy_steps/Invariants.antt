-- `copy_steps` meets its contract, by the laws of StepByStep: the cells are stored one after the other, and none of them is read later.
use lib.IntN.{pos}
use Rattle.pad_line.proofs.StepByStep.{StepStored}
use Rattle.pad_line.proofs.steps.copy_steps.Given as goal

abbrev pub invariant-loop-j : goal.invariant-loop-j
invariant-loop-j l = StepStored (pos 0) l.up l.down l.from l.at l.initial.out l.out l.j
