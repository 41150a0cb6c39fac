-- How the two cells of a pair are joined, over any element.
--   joined_by o minus    the operation: difference where minus is true, else sum
use Rattle.std.specs.Prelude.{Bool, true, false}
use Rattle.correlate_spec.specs.Weighed.{Ops}

abbrev pub joined_by : {A : Type 0} → Ops A → Bool → A → A → A
joined_by o true = o.difference
joined_by o false = o.sum
