-- `judge_step` meets its contract: the judge of the step's kind.
use mathlib.Core.Path.{◌≡◌, ◌∙◌}
use borrow.Author.Rules.{rules}
use mir.Syntax.{w64}
use mir.Val.{to_z, of_z}
use Rattle.recipe_play.proofs.OneStep.{window-call}
use Rattle.recipe_play.proofs.step.judge_step.Goals as goal

pub returns : goal.returns
returns c =
    let a = c.args in
    let o : to_z w64 (of_z w64 c.from.result) ≡ a.s.origin = search rules in
    (rw (c.from-size.ensures, c.from-axis.ensures, c.mode_of-mode.ensures, o) at c.judge_window.ensures) ∙ window-call a.shape.now a.s c.if-s-eq2.false
