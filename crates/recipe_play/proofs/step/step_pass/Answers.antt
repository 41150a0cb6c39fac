-- `step_pass` meets its contract: the pass of the step's kind, on levels that its call accepts.
use mathlib.Core.Path.{◌≡◌, ◌∙◌}
use borrow.Author.Rules.{rules}
use lib.ListN.{length}
use mir.Syntax.{w64}
use mir.Val.{to_z, of_z}
use Rattle.numbers.specs.Refusal.{refusal_of}
use Rattle.recipe_spec.specs.Player.{step_judged}
use Rattle.uniform.proofs.Accepted.{along_accepted}
use Rattle.recipe_play.proofs.OneStep.{judged_mean, judged-call, answer_call}
use Rattle.recipe_play.proofs.step.step_pass.Goals as goal

pub pass-requires : goal.pass-requires
pass-requires c =
    let a = c.args in
    let z : refusal_of (step_judged a.shape.now a.s a.«data».now) ≡ 0 = search rules in
    let e : length a.out.now ≡ length a.«data».now = search rules in
    rw (c.from-size.ensures, c.from-axis.ensures, c.mode_of-mode.ensures)
    (along_accepted a.out.now (judged_mean a.shape.now a.s c.if-s-eq2.true a.«data».now z a.out.now e))

pub pass-requires-2 : goal.pass-requires-2
pass-requires-2 c =
    let a = c.args in
    let z : refusal_of (step_judged a.shape.now a.s a.«data».now) ≡ 0 = search rules in
    let e : length a.out.now ≡ length a.«data».now = search rules in
    let o : to_z w64 (of_z w64 c.from.result) ≡ a.s.origin = search rules in
    rw (c.from-size.ensures, c.from-axis.ensures, c.mode_of-mode.ensures, o) (judged-call a.shape.now a.s c.if-s-eq2.false a.«data».now z a.out.now e)

pub returns : goal.returns
returns c =
    let a = c.args in
    let o : to_z w64 (of_z w64 c.from.result) ≡ a.s.origin = search rules in
    (rw (c.from-size.ensures, c.from-axis.ensures, c.mode_of-mode.ensures, o, c.extreme_of-extreme.ensures) at c.pass-2.ensures)
    ∙ answer_call a.shape.now a.s c.if-s-eq2.false a.«data».now a.out.now
