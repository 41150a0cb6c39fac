-- `pad_line_f64::extension::extend_f64` meets its contract: each arm is what the constant's or the cells' extension ensures.
use Rattle.border.specs.declared.CellBorder.TheVariants.{Nearest, Mirror, Reflect, Wrap}
use Rattle.pad_line.proofs.RimSteps.{rimmed}
use Rattle.pad_line_f64.proofs.extension.extend_f64.Goals as goal

pub extend_along_f64-requires : goal.extend_along_f64-requires
extend_along_f64-requires c = rimmed Mirror (rw c.in-Mirror.is at c.requires)

pub extend_along_f64-requires-in-Nearest : goal.extend_along_f64-requires-in-Nearest
extend_along_f64-requires-in-Nearest c = rimmed Nearest (rw c.in-Nearest.is at c.requires)

pub extend_along_f64-requires-in-Reflect : goal.extend_along_f64-requires-in-Reflect
extend_along_f64-requires-in-Reflect c = rimmed Reflect (rw c.in-Reflect.is at c.requires)

pub extend_along_f64-requires-in-Wrap : goal.extend_along_f64-requires-in-Wrap
extend_along_f64-requires-in-Wrap c = rimmed Wrap (rw c.in-Wrap.is at c.requires)

pub returns-in-Constant : goal.returns-in-Constant
returns-in-Constant c = rw c.in-Constant.is c.extend_constant_f64.ensures

pub returns-in-Mirror : goal.returns-in-Mirror
returns-in-Mirror c = rw c.in-Mirror.is c.extend_along_f64.ensures

pub returns-in-Nearest : goal.returns-in-Nearest
returns-in-Nearest c = rw c.in-Nearest.is c.extend_along_f64-in-Nearest.ensures

pub returns-in-Reflect : goal.returns-in-Reflect
returns-in-Reflect c = rw c.in-Reflect.is c.extend_along_f64-in-Reflect.ensures

pub returns-in-Wrap : goal.returns-in-Wrap
returns-in-Wrap c = rw c.in-Wrap.is c.extend_along_f64-in-Wrap.ensures
