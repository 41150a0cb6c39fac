-- `Kernel3d::count` meets its contract: each arm gives the definition at its variant, by computing.
use mathlib.Core.Path.{ap, sym}
use Rattle.kernel3d.specs.Shape.{count_of}
use Rattle.kernel3d.proofs.Kernel3d.count.Goals as goal

pub returns-in-Star : goal.returns-in-Star
returns-in-Star c = ap count_of (sym c.in-Star.is)

pub returns-in-Ball : goal.returns-in-Ball
returns-in-Ball c = ap count_of (sym c.in-Ball.is)

pub returns-in-Full : goal.returns-in-Full
returns-in-Full c = ap count_of (sym c.in-Full.is)
