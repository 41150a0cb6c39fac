-- `judge_steps` meets its contract: the steps that are left decide.
use Prim.Native.Nat.{◌<◌}
use native.Mathlib.Omega.{arith}
use mathlib.Core.Path.{refl, sym, ap, ◌∙◌}
use lib.ListN.{take, length-take, drop_of_length-le}
use lib.Seq.{get_or-take}
use Rattle.std.proofs.lemmas.Result.{err_from_is_err_and}
use Rattle.numbers.specs.Refusal.{refusal_of}
use Rattle.numbers.proofs.Number.{number_some}
use Rattle.recipe_spec.specs.Recipes.{no_step}
use Rattle.recipe_spec.specs.Before.{window_of_step, windows_judged}
use Rattle.recipe_play.proofs.Turns.{steps_stop, steps_go}
use Rattle.recipe_play.proofs.steps.judge_steps.Goals as goal

pub returns-in_err-judge_step : goal.returns-in_err-judge_step
returns-in_err-judge_step c =
    let p = err_from_is_err_and c.from_residual.result c.from_residual.ensures.1 in
    let a = c.args in
    let k = c.loop-k.k in
    let h : k < a.count = omega arith in
    rw (p.1, p.2)
    (steps_stop a.shape.now (take a.count a.steps) k _ (omega (arith, length-take a.count a.steps, c.well_formed.1.0.1.0.1))
    (c.in_err-judge_step.ensures ∙ ap (λ x. refusal_of (window_of_step a.shape.now x)) (sym (get_or-take a.count a.steps k no_step h)))
    c.loop-k.invariant (number_some _))

pub loop-k-preserved : goal.loop-k-preserved
loop-k-preserved c =
    let a = c.args in
    let k = c.loop-k.k in
    let h : k < a.count = omega arith in
    steps_go a.shape.now (take a.count a.steps) k 0 (omega (arith, length-take a.count a.steps, c.well_formed.1.0.1.0.1))
    (c.in_ok-judge_step.ensures ∙ ap (λ x. refusal_of (window_of_step a.shape.now x)) (sym (get_or-take a.count a.steps k no_step h)))
    c.loop-k.invariant refl

pub returns : goal.returns
unfolding windows_judged
returns c =
    let a = c.args in
    sym (c.loop-k.invariant ∙ ap (λ l. refusal_of (windows_judged a.shape.now l)) (drop_of_length-le (take a.count a.steps) {i = c.loop-k.k} (omega (
      arith,
      length-take a.count a.steps,
      c.loop-k-test.false,
    ))))
