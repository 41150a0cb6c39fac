-- `rows` meets its contract: every row holds by computing.
use mathlib.Core.Path.{refl}
use lib.Ieee.{add, mul}
use Rattle.correlate_line_f64.proofs.rows.Goals as goal

pub returns : goal.returns
unfolding add mul
returns c = record { four = refl; one_by_one = refl; signs = refl }
