-- `marks` meets its contract, by one law over any element.
use Rattle.ndimage_arguments.proofs.Cut.{cells_lent}
use Rattle.ndimage_arguments.proofs.marks.Goals as goal

pub returns : goal.returns
returns c = cells_lent _ _ _ c.lent-start.ensures c.lent-count.ensures
