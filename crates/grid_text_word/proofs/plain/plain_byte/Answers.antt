-- `plain_byte` meets its contract: no cap is reached.
use Prim.Native.Nat.{◌+◌, ◌*◌}
use mathlib.Core.Path.{ap, ◌∙◌}
use Rattle.grid_text_word.proofs.Digit.{plain-next}
use Rattle.grid_text_word.proofs.plain.plain_byte.Goals as goal

pub returns : goal.returns
returns c =
    let w = c.args.word in
    ap (λ n. record { minus = w.minus; odd = w.odd; digits = w.digits + 1; size = w.size * 10 + n }) c.from.ensures
    ∙ plain-next w c.args.byte c.requires
