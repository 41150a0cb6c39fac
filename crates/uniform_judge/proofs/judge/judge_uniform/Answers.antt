-- `judge_uniform` meets its contract: the grid's number, or the number of the window; condition 12 never holds in any pass.
use mathlib.Core.List.{[], ◌∷◌}
use lib.ListN.{length, drop}
use Rattle.std.proofs.lemmas.Result.{err_from_is_err_and}
use Rattle.array_spec.specs.Conditions.{bad_level}
use Rattle.array_spec.proofs.Judged.{grid_refused, grid_ends}
use Rattle.border.specs.Axes.{borders_of}
use Rattle.uniform_spec.specs.Judge.{uniform_axes_judged, bad_uniform_sums_from, uniform_judged}
use Rattle.uniform_spec.proofs.Sums.{no_bad_sums_from}
use Rattle.uniform_judge.proofs.judge.judge_uniform.Goals as goal

pub returns-in_err-judge_grid : goal.returns-in_err-judge_grid
returns-in_err-judge_grid c =
    let p = err_from_is_err_and c.from_residual.result c.from_residual.ensures.1 in
    let a = c.args in
    rw (p.1, p.2)
    (grid_refused bad_level a.shape.now a.«data».now (a.out ∷ a.second ∷ []) (drop 3 (uniform_judged (borders_of a.modes) a.size a.shape.now a.«data».now a.out a.second)) _
    c.in_err-judge_grid.ensures)

pub returns : goal.returns
returns c =
    let a = c.args in
    let bs = borders_of a.modes in
    grid_ends bad_level a.shape.now a.«data».now (a.out ∷ a.second ∷ []) (uniform_axes_judged bs a.size a.shape.now)
    (bad_uniform_sums_from bs a.size a.shape.now 0 (length a.shape.now) a.«data».now) 12 (tt, (tt, (tt, tt))) c.in_ok-judge_grid.ensures c.judge_axes.ensures
    (λ G p. no_bad_sums_from bs a.size a.shape.now a.«data».now G.levels p.1.0 p.0)
