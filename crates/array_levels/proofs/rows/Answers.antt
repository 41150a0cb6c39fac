-- `rows` meets its contract: every row holds by computing.
use Rattle.std.proofs.Common.{refl}
use Rattle.array_levels.proofs.rows.Goals as goal

pub returns : goal.returns
returns c = record { fars = refl; lifts = refl }
