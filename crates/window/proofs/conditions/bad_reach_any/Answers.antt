-- `bad_reach_any` meets its contract: an accepted origin gives the pads, the same on every axis, and each border is asked about them.
use Rattle.window_spec.proofs.Reach.{single_any}
use Rattle.border.specs.Axes.{borders_of}
use Rattle.window.proofs.conditions.bad_reach_any.Goals as goal

pub returns-then-size-eq1 : goal.returns-then-size-eq1
returns-then-size-eq1 c = let a = c.args in single_any (borders_of a.modes) a.size a.origin a.shape.now c.if-size-eq1.true
