-- `numbering` meets its contract, arm by arm.
use mathlib.Core.Path.{refl}
use Rattle.correlate_grid_axes.proofs.axes.numbering.Goals as goal

pub returns-in-Constant : goal.returns-in-Constant
returns-in-Constant c = rw c.in-Constant.is refl
