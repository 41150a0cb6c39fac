-- `four_more` meets its contract: the operations are those of the definition, in its order.
use mathlib.Core.Path.{refl}
use Rattle.correlate_line_f64.proofs.terms.four_more.Goals as goal

pub returns : goal.returns
returns c = refl
