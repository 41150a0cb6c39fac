-- `bad_grid` meets its contract: no axis before the one that the loop has reached refuses its window.
use mathlib.Core.Path.{◌≡◌}
use Rattle.border.specs.Axes.{borders_of, any_axis}
use Rattle.border.proofs.AnyAxis.{axes_from}
use Rattle.uniform_spec.specs.Judge.{bad_grid_reach}
use Rattle.uniform_judge.proofs.judge.bad_grid.Given as goal

abbrev pub invariant-loop-a : goal.invariant-loop-a
invariant-loop-a l = any_axis (λ b. bad_grid_reach b l.size) (borders_of l.modes) l.shape ≡ axes_from (λ b. bad_grid_reach b l.size) (borders_of l.modes) l.shape l.a
