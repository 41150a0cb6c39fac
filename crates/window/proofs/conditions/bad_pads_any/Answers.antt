-- `bad_pads_any` meets its contract: no axis before the one that the loop has reached refuses its pads.
use mathlib.Core.Path.{sym, ap, ◌∙◌}
use borrow.Author.Rules.{rules}
use lib.ListN.{get_or}
use Rattle.numbers.proofs.Tests.{condition_is}
use Rattle.border.specs.Axes.{borders_of}
use Rattle.border.specs.Modes.{border_of}
use Rattle.border.specs.declared.BorderMode.{BorderMode}
use Rattle.border.proofs.AnyAxis.{axis_start, axis_hit, axis_miss, axis_end}
use Rattle.window_spec.specs.Window.{bad_either_pad}
use Rattle.window.proofs.conditions.bad_pads_any.Goals as goal

pub loop-a-init : goal.loop-a-init
loop-a-init c =
    let a = c.args in
    axis_start (λ b. bad_either_pad b a.left a.right) (borders_of a.modes) a.shape.now

pub returns-then-bad_pads : goal.returns-then-bad_pads
returns-then-bad_pads c =
    let a = c.args in
    let l = c.loop-a in
    sym (axis_hit (λ b. bad_either_pad b a.left a.right) (borders_of a.modes) 0 l.a a.shape.now (search rules) l.invariant
    (condition_is (c.bad_pads.ensures ∙ ap (λ (m : BorderMode). bad_either_pad (border_of m) a.left a.right (get_or a.shape.now l.a 0)) c.mode_on-mode.ensures) c.if-bad_pads.true))

pub loop-a-preserved : goal.loop-a-preserved
loop-a-preserved c =
    let a = c.args in
    let l = c.loop-a in
    axis_miss (λ b. bad_either_pad b a.left a.right) (borders_of a.modes) 0 l.a a.shape.now (search rules) l.invariant
    (condition_is (c.bad_pads.ensures ∙ ap (λ (m : BorderMode). bad_either_pad (border_of m) a.left a.right (get_or a.shape.now l.a 0)) c.mode_on-mode.ensures) c.if-bad_pads.false)

pub returns : goal.returns
returns c =
    let a = c.args in
    let l = c.loop-a in
    sym (axis_end (λ b. bad_either_pad b a.left a.right) (borders_of a.modes) l.a a.shape.now (search rules) l.invariant)
