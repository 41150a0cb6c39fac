-- `judge_gradient` meets its contract: the grid's number, or the number of the passes; condition 12 never holds.
use mathlib.Core.List.{[], ◌∷◌}
use Rattle.array_spec.specs.Conditions.{bad_level}
use Rattle.array_spec.proofs.Judged.{grid_ends}
use Rattle.border.specs.Axes.{borders_of}
use Rattle.gradient_spec.specs.Judge.{passes_judged, bad_gradient_sums}
use Rattle.gradient_spec.proofs.Sums.{no_gradient_sums}
use Rattle.gradient.proofs.EachPass.{axis_in}
use Rattle.gradient.proofs.judge.judge_gradient.Goals as goal

pub returns : goal.returns
returns c smooth S =
    let a = c.args in
    let bs = borders_of a.modes in
    grid_ends bad_level a.shape.now a.«data».now (a.out ∷ a.second ∷ []) (passes_judged bs a.shape.now a.axis)
    (bad_gradient_sums smooth bs a.shape.now a.axis a.«data».now) 12 (tt, (tt, (tt, tt))) c.in_ok-judge_grid.ensures c.judge_passes.ensures
    (λ G p. no_gradient_sums bs S a.shape.now a.axis a.«data».now G.shape G.levels (axis_in a.shape.now a.axis p.0) p.1.0)
