-- `numeral` meets its contract: the token's number is that of the bytes that are left, after n.
use Prim.Native.Nat.{◌^◌, ◌<◌}
use mathlib.Core.Path.{◌≡◌}
use lib.ListN.{drop}
use Rattle.text_spec.specs.Reading.{numeral_from, numeral_of}
use Rattle.text.proofs.read.numeral.Given as goal

abbrev pub invariant-loop-byte : goal.invariant-loop-byte
invariant-loop-byte l = (l.n < 2 ^ 64) × (numeral_of l.base l.token ≡ numeral_from l.base l.n (drop l.byte-index l.token))
