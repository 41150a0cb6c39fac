-- `one_border` meets its contract: by the laws of one border.
use Rattle.border.proofs.OneBorder.{under_constant, under_cells}
use Rattle.border.proofs.one_border.Goals as goal

pub returns : goal.returns
returns c = record { under_constant = under_constant; under_cells = under_cells }
