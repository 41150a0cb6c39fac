-- `bad_length` meets its contract: the count is condition 2's own.
use mathlib.Core.Path.{ap}
use mathlib.Core.Bool.{not}
use lib.Dec.{eqb}
use Rattle.array.proofs.conditions.bad_length.Goals as goal

pub returns : goal.returns
returns c = ap (λ n. not (eqb c.args.len n)) c.cell_count.ensures
