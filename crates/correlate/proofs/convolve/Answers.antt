-- `convolve` meets its contract: an accepted call's answer is that of the reversed weights.
use mathlib.Core.Path.{◌≡◌, sym, ◌∙◌}
use lib.ListN.{length}
use mir.Syntax.{w64}
use mir.Val.{to_z, of_z}
use Rattle.numbers.proofs.Number.{fills}
use Rattle.border.specs.Modes.{border_of}
use Rattle.correlate_judge_spec.proofs.Convolution.{kernel_convolves}
use borrow.Author.Rules.{rules}
use Rattle.correlate.proofs.convolve.Goals as goal

pub returns : goal.returns
returns c =
    let a = c.args in
    let e : to_z w64 (of_z w64 a.origin) ≡ a.origin = search rules in
    let judged = rw e at c.in_ok-judge_kernel.ensures in
    let turned = kernel_convolves (border_of a.mode) a.origin a.sides.now a.weights.now a.shape.now a.«data».now (length a.out.now) in
    fills _ _ _ judged ((rw e at c.correlate_cells.ensures) ∙ sym (turned.levels (sym judged)))
