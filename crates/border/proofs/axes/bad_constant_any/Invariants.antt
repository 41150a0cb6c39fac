-- `bad_constant_any` meets its contract: no axis before the one that the loop has reached has a refused constant.
use mathlib.Core.Path.{◌≡◌}
use Rattle.array_spec.specs.Conditions.{bad_level}
use Rattle.border.specs.Axes.{borders_of, bad_constants}
use Rattle.border.specs.Modes.{bad_constant_by}
use Rattle.border.proofs.AnyAxis.{axes_from}
use Rattle.border.proofs.axes.bad_constant_any.Given as goal

abbrev pub invariant-loop-a : goal.invariant-loop-a
invariant-loop-a l = bad_constants bad_level (borders_of l.modes) l.shape
    ≡ axes_from (λ b n. bad_constant_by bad_level b) (borders_of l.modes) l.shape l.a
