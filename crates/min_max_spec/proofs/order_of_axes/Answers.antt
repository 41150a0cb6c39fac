-- `order_of_axes` meets its contract: one law over a total order, instantiated at ≤ and at ≥.
use lib.Signed.{le_z}
use Rattle.numbers.specs.Order.{at_least}
use Rattle.numbers.proofs.IntOrder.{total_≤, total_≥}
use Rattle.min_max_spec.proofs.Perms.{order_for}
use Rattle.min_max_spec.proofs.order_of_axes.Goals as goal

pub returns : goal.returns
returns c = record { minimum = order_for le_z total_≤; maximum = order_for at_least total_≥ }
