-- `judge_uniform1d` meets its contract: the grid's number, or the number of the window; condition 12 never holds.
use mathlib.Core.List.{[], ◌∷◌}
use lib.ListN.{drop}
use Rattle.std.proofs.lemmas.Result.{err_from_is_err_and}
use Rattle.array_spec.specs.Conditions.{bad_level}
use Rattle.array_spec.proofs.Judged.{grid_refused, grid_ends}
use Rattle.border.specs.Modes.{border_of}
use Rattle.uniform_spec.specs.Judge.{uniform_along_judged, bad_uniform_sums, uniform1d_judged}
use Rattle.uniform_spec.proofs.Sums.{no_bad_sums}
use Rattle.uniform_judge.proofs.judge.judge_uniform1d.Goals as goal

pub returns-in_err-judge_grid : goal.returns-in_err-judge_grid
returns-in_err-judge_grid c =
    let p = err_from_is_err_and c.from_residual.result c.from_residual.ensures.1 in
    let a = c.args in
    rw (p.1, p.2)
    (grid_refused bad_level a.shape.now a.«data».now (a.out ∷ []) (drop 3 (uniform1d_judged (border_of a.mode) a.size a.shape.now a.axis a.«data».now a.out)) _
    c.in_err-judge_grid.ensures)

pub returns : goal.returns
returns c =
    let a = c.args in
    let b = border_of a.mode in
    grid_ends bad_level a.shape.now a.«data».now (a.out ∷ []) (uniform_along_judged b a.size a.shape.now a.axis)
    (bad_uniform_sums b a.size a.shape.now a.axis a.«data».now) 12 (tt, (tt, (tt, (tt, tt)))) c.in_ok-judge_grid.ensures c.judge_along.ensures
    (λ G p. no_bad_sums b a.size a.shape.now a.«data».now G.levels p.1.1.0 p.0 a.axis)
