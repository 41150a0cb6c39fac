-- `write_recipe` meets its contract: the judge's number, or the bytes of the file stored from the front.
use native.Mathlib.Omega.{arith}
use mathlib.Core.Path.{sym}
use lib.ListN.{length, get_or}
use Rattle.recipe_spec.proofs.Written.{file_stored}
use Rattle.recipe_spec.proofs.Judge.{count_is}
use Rattle.recipe_spec.specs.Recipes.{file_of, recipe_judged}
use Rattle.numbers.proofs.Stored.{front-none}
use Rattle.numbers.proofs.Chain.{judged-all}
use Rattle.numbers.proofs.Number.{fills}
use Rattle.recipe_file.proofs.writer.write_recipe.Goals as goal

pub loop-i-init : goal.loop-i-init
loop-i-init c =
    let a = c.args in
    let j = judged-all (recipe_judged a.count a.steps (length a.out.now)) (tt, (tt, tt)) (sym c.in_ok-judge_recipe.ensures) in
    let n = count_is a.count (length a.out.now) j.0 in
    (n.1, n.2, front-none 0 (λ k. get_or (file_of a.count a.steps) k 0) a.out.now)

pub returns : goal.returns
returns c =
    let a = c.args in
    let v = c.loop-i.invariant in
    fills (recipe_judged a.count a.steps (length a.out.now)) (file_of a.count a.steps) a.out.now c.in_ok-judge_recipe.ensures
    (file_stored a.count c.loop-i.i a.steps a.out.now c.loop-i.out c.well_formed.1.0.1.0.1 v.0 v.1 (omega (arith, v.2.kept)) v.2)
