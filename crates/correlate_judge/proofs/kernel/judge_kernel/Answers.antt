-- `judge_kernel` meets its contract: the grid's number, or the number of the kernel and its place; condition 12 never holds.
use mathlib.Core.Path.{◌≡◌, ap, ◌∙◌}
use mathlib.Core.List.{[], ◌∷◌}
use mir.Syntax.{w64}
use mir.Val.{to_z, of_z}
use lib.IntN.{ℤ}
use Rattle.numbers.specs.Refusal.{refusal_of}
use Rattle.array_spec.specs.Conditions.{bad_level}
use Rattle.array_spec.proofs.Judged.{grid_ends}
use Rattle.border.specs.Modes.{border_of}
use Rattle.correlate_judge_spec.specs.KernelJudge.{kernel_placed, bad_kernel_sums}
use Rattle.correlate_judge_spec.proofs.KernelChain.{no_bad_sums}
use borrow.Author.Rules.{rules}
use Rattle.correlate_judge.proofs.kernel.judge_kernel.Goals as goal

pub returns : goal.returns
returns c =
    let a = c.args in
    let e : to_z w64 (of_z w64 a.origin) ≡ a.origin = search rules in
    let b = border_of a.mode in
    let w = a.weights.now in
    grid_ends bad_level a.shape.now a.«data».now (a.out ∷ []) (kernel_placed a.convolution b a.origin a.sides.now w a.shape.now)
    (bad_kernel_sums a.convolution b a.origin a.sides.now w a.shape.now a.«data».now) 12 (tt, (tt, (tt, (tt, (tt, tt))))) c.in_ok-judge_grid.ensures
    (c.judge_placed.ensures ∙ ap (λ (o : ℤ). refusal_of (kernel_placed a.convolution b o a.sides.now w a.shape.now)) e)
    (λ G p. no_bad_sums a.convolution b a.origin a.sides.now w a.shape.now a.«data».now G.shape G.levels p.0 p.1.0 p.1.1.1.0)
