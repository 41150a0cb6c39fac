-- `play` meets its contract: all is judged, then the steps are played and the second grid is cleared.
use Prim.Native.Nat.{ℕ}
use mathlib.Core.Path.{refl, sym, ap, ◌∙◌}
use mathlib.Core.List.{List, [], ◌∷◌}
use lib.IntN.{ℤ, pos}
use lib.ListN.{length, replicate}
use Rattle.std.proofs.lemmas.Result.{err_from_is_err_and}
use Rattle.numbers.proofs.Number.{number_some, scratch_keeps, scratch_fills}
use Rattle.recipe_spec.specs.Player.{played}
use Rattle.recipe_play.proofs.Called.{steps_read, count_read, grid_stops, lent_passed, grid_number_lem, steps_number}
use Rattle.recipe_play.proofs.play.Goals as goal

pub returns-in_err-judge_grid : goal.returns-in_err-judge_grid
returns-in_err-judge_grid c =
    let p = err_from_is_err_and c.from_residual-in_err-judge_grid.result c.from_residual-in_err-judge_grid.ensures.1 in
    let a = c.args in
    rw (p.1, p.2)
    (scratch_keeps (pos 0) _ _ _ _ _
    (grid_stops a.file.now a.shape.now a.«data».now (length a.out.now) (length a.second.now) c.in_ok-recipe.ensures refl
    c.in_err-judge_grid.ensures (number_some _)))

pub judge_steps-requires : goal.judge_steps-requires
judge_steps-requires c =
    let a = c.args in
    (count_read a.file.now a.shape.now a.«data».now (length a.out.now) (length a.second.now) c.in_ok-recipe.ensures refl).1

pub returns-in_err-judge_steps : goal.returns-in_err-judge_steps
returns-in_err-judge_steps c =
    let p = err_from_is_err_and c.from_residual-in_err-judge_steps.result c.from_residual-in_err-judge_steps.ensures.1 in
    let a = c.args in
    rw (p.1, p.2)
    (scratch_keeps (pos 0) _ _ _ _ _
    (steps_number a.file.now a.shape.now a.«data».now (length a.out.now) (length a.second.now) c.in_ok-recipe.ensures refl
    c.in_ok-judge_grid.ensures refl c.in_err-judge_steps.ensures))

pub play_steps-requires : goal.play_steps-requires
play_steps-requires c =
    let a = c.args in
    let R = c.in_ok-recipe.ensures in
    let e = c.in_ok-judge_grid.ensures in
    let n = count_read a.file.now a.shape.now a.«data».now (length a.out.now) (length a.second.now) R refl in
    let G = lent_passed a.file.now a.shape.now a.«data».now (length a.out.now) (length a.second.now) R refl e refl in (
      n.0,
      n.1,
      grid_number_lem a.file.now a.shape.now a.«data».now (length a.out.now) (length a.second.now) R refl e refl,
      sym c.in_ok-judge_steps.ensures,
      G.lengths.1.0 ∙ sym G.count,
      G.lengths.0 ∙ sym G.count,
    )

pub returns : goal.returns
returns c =
    let a = c.args in
    let R = c.in_ok-recipe.ensures in
    let j = steps_number a.file.now a.shape.now a.«data».now (length a.out.now) (length a.second.now) R refl c.in_ok-judge_grid.ensures refl
    c.in_ok-judge_steps.ensures in
    let p = c.play_steps in
    scratch_fills (pos 0) _ _ _ _ j
    (p.ensures ∙ ap (λ l. played a.shape.now l a.«data».now) (steps_read a.file.now a.shape.now a.«data».now (length a.out.now) (length a.second.now) R))
    (ap (λ (s : List ℤ). s ∷ []) (c.fill.ensures ∙ ap (λ (n : ℕ). replicate n (pos 0)) p.auto.second))
