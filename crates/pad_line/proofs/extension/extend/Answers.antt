-- `pad_line::extension::extend` meets its contract: each arm is what the constant's or the cells' extension ensures.
use mathlib.Core.Path.{◌≡◌, ap, ◌∙◌}
use borrow.Author.Rules.{rules}
use lib.IntN.{ℤ, pos}
use mir.Syntax.{w64}
use mir.Val.{to_z, of_z}
use Rattle.border.specs.Border.{constant}
use Rattle.border.specs.declared.CellBorder.TheVariants.{Nearest, Mirror, Reflect, Wrap}
use Rattle.pad_line.specs.Line.{pad_middle}
use Rattle.pad_line.proofs.RimSteps.{rimmed}
use Rattle.pad_line.proofs.extension.extend.Goals as goal

pub extend_along-requires : goal.extend_along-requires
extend_along-requires c = rimmed Mirror (rw c.in-Mirror.is at c.requires)

pub extend_along-requires-in-Nearest : goal.extend_along-requires-in-Nearest
extend_along-requires-in-Nearest c = rimmed Nearest (rw c.in-Nearest.is at c.requires)

pub extend_along-requires-in-Reflect : goal.extend_along-requires-in-Reflect
extend_along-requires-in-Reflect c = rimmed Reflect (rw c.in-Reflect.is at c.requires)

pub extend_along-requires-in-Wrap : goal.extend_along-requires-in-Wrap
extend_along-requires-in-Wrap c = rimmed Wrap (rw c.in-Wrap.is at c.requires)

pub returns-in-Constant : goal.returns-in-Constant
returns-in-Constant c =
    let s = c in
    let a = s.args in
    let z = s.in-Constant.c in
    let e : to_z w64 (of_z w64 z) ≡ z = search rules in
    rw s.in-Constant.is (c.extend_constant.ensures ∙ ap (λ (x : ℤ). pad_middle (pos 0) (constant x) a.left a.n a.right a.line.now) e)

pub returns-in-Mirror : goal.returns-in-Mirror
returns-in-Mirror c = rw c.in-Mirror.is c.extend_along.ensures

pub returns-in-Nearest : goal.returns-in-Nearest
returns-in-Nearest c = rw c.in-Nearest.is c.extend_along-in-Nearest.ensures

pub returns-in-Reflect : goal.returns-in-Reflect
returns-in-Reflect c = rw c.in-Reflect.is c.extend_along-in-Reflect.ensures

pub returns-in-Wrap : goal.returns-in-Wrap
returns-in-Wrap c = rw c.in-Wrap.is c.extend_along-in-Wrap.ensures
