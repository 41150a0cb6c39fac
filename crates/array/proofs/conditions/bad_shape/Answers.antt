-- `bad_shape` meets its contract: the count is 0 exactly where the shape is refused.
use mathlib.Core.Path.{ap, ◌∙◌}
use lib.Dec.{eqb}
use Rattle.array_spec.proofs.Shapes.{count_test}
use Rattle.array.proofs.conditions.bad_shape.Goals as goal

pub returns : goal.returns
returns c = ap (λ n. eqb n 0) c.cell_count.ensures ∙ count_test _
