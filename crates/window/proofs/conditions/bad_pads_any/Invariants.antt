-- `bad_pads_any` meets its contract: no axis before the one that the loop has reached refuses its pads.
use mathlib.Core.Path.{◌≡◌}
use Rattle.border.specs.Axes.{borders_of, any_axis}
use Rattle.border.proofs.AnyAxis.{axes_from}
use Rattle.window_spec.specs.Window.{bad_either_pad}
use Rattle.window.proofs.conditions.bad_pads_any.Given as goal

abbrev pub invariant-loop-a : goal.invariant-loop-a
invariant-loop-a l = any_axis (λ b. bad_either_pad b l.left l.right) (borders_of l.modes) l.shape
    ≡ axes_from (λ b. bad_either_pad b l.left l.right) (borders_of l.modes) l.shape l.a
