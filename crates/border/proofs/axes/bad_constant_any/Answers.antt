-- `bad_constant_any` meets its contract: no axis before the one that the loop has reached has a refused constant.
use mathlib.Core.Path.{sym, ap, ◌∙◌}
use borrow.Author.Rules.{rules}
use Rattle.numbers.proofs.Tests.{condition_is}
use Rattle.array_spec.specs.Conditions.{bad_level}
use Rattle.border.specs.Axes.{borders_of}
use Rattle.border.specs.Modes.{border_of, bad_constant_by}
use Rattle.border.specs.declared.BorderMode.{BorderMode}
use Rattle.border.proofs.AnyAxis.{axis_start, axis_hit, axis_miss, axis_end}
use Rattle.border.proofs.axes.bad_constant_any.Goals as goal

pub loop-a-init : goal.loop-a-init
loop-a-init c = axis_start (λ b n. bad_constant_by bad_level b) (borders_of c.args.modes) c.args.shape.now

pub returns-then-bad_constant : goal.returns-then-bad_constant
returns-then-bad_constant c =
    let l = c.loop-a in
    sym (axis_hit (λ b n. bad_constant_by bad_level b) (borders_of c.args.modes) 0 l.a c.args.shape.now (search rules) l.invariant
    (condition_is (c.bad_constant.ensures ∙ ap (λ (m : BorderMode). bad_constant_by bad_level (border_of m)) c.mode_on-mode.ensures) c.if-bad_constant.true))

pub loop-a-preserved : goal.loop-a-preserved
loop-a-preserved c =
    let l = c.loop-a in
    axis_miss (λ b n. bad_constant_by bad_level b) (borders_of c.args.modes) 0 l.a c.args.shape.now (search rules) l.invariant
    (condition_is (c.bad_constant.ensures ∙ ap (λ (m : BorderMode). bad_constant_by bad_level (border_of m)) c.mode_on-mode.ensures) c.if-bad_constant.false)

pub returns : goal.returns
returns c =
    let l = c.loop-a in
    sym (axis_end (λ b n. bad_constant_by bad_level b) (borders_of c.args.modes) l.a c.args.shape.now (search rules) l.invariant)
