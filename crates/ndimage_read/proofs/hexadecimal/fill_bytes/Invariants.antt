-- `fill_bytes` meets its contract: the bytes are stored from the front, as many as there are and as there is room for.
use lib.Dec.{ltb}
use Rattle.numbers.proofs.Stored.{Stored}
use Rattle.ndimage_spec.specs.Hexadecimal.{byte_at}
use Rattle.ndimage_read.proofs.hexadecimal.fill_bytes.Given as goal

abbrev pub invariant-loop-k : goal.invariant-loop-k
invariant-loop-k l = Stored 0 (λ j. ltb j l.k) (byte_at l.token) l.initial.out l.out
