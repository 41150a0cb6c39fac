-- `bad_grid` meets its contract: no axis before the one that the loop has reached refuses its window.
use Rattle.numbers.proofs.Tests.{condition_is}
use Rattle.border.specs.Axes.{borders_of}
use Rattle.border.proofs.AnyAxis.{axis_start, axis_miss}
use Rattle.uniform_spec.specs.Judge.{bad_grid_reach}
use borrow.Author.Rules.{rules}
use Rattle.uniform_judge.proofs.judge.bad_grid.Goals as goal

pub loop-a-init : goal.loop-a-init
loop-a-init c = let a = c.args in axis_start (λ b. bad_grid_reach b a.size) (borders_of a.modes) a.shape.now

pub loop-a-preserved : goal.loop-a-preserved
loop-a-preserved c =
    let a = c.args in
    let l = c.loop-a in
    axis_miss (λ b. bad_grid_reach b a.size) (borders_of a.modes) 0 l.a a.shape.now (search rules) l.invariant
    (condition_is (rw c.mode_on.ensures at c.bad_grid_window.ensures) c.if-bad_grid_window.false)
