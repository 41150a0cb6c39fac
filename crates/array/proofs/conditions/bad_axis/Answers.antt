-- `bad_axis` meets its contract: not below is at or above.
use lib.ListN.{length}
use Rattle.numbers.proofs.Tests.{leb_not_ltb}
use Rattle.array.proofs.conditions.bad_axis.Goals as goal

pub returns : goal.returns
returns c = leb_not_ltb (length c.args.shape.now) c.args.axis
