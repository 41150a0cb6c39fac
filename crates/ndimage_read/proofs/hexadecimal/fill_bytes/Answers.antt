-- `fill_bytes` meets its contract: the bytes are stored from the front, as many as there are and as there is room for.
use Prim.Native.Nat.{min}
use mathlib.Core.Path.{◌≡◌, ap, ◌∙◌}
use mathlib.Core.List.{◌++◌}
use native.Mathlib.Omega.{arith}
use lib.ListN.{length, drop}
use Rattle.numbers.specs.Lists.{tabulate}
use Rattle.numbers.proofs.Stored.{front-part}
use Rattle.ndimage_spec.specs.Hexadecimal.{byte_count, byte_at}
use Rattle.ndimage_read.proofs.hexadecimal.fill_bytes.Goals as goal

pub returns : goal.returns
returns c =
    let t = c.args.token.now in
    let out = c.args.out.now in
    let n : c.loop-k.k ≡ min (byte_count t) (length out) = omega arith in
    front-part 0 (byte_at t) (omega arith) c.loop-k.invariant ∙ ap (λ m. tabulate (byte_at t) 0 m ++ drop m out) n
