-- `places` meets its contract: the power is above every number of as many digits as were counted.
use Rattle.text_spec.proofs.Digits.{Counting}
use Rattle.text.proofs.write.places.Given as goal

abbrev pub invariant-loop-k : goal.invariant-loop-k
invariant-loop-k l = Counting l.n l.k l.power
