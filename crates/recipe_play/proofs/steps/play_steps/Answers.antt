-- `play_steps` meets its contract: two steps a turn, by way of the second grid. The measure is how many are left.
use Prim.Native.Nat.{◌+◌, ◌≤◌, ◌<◌}
use native.Mathlib.Omega.{arith}
use mathlib.Core.Path.{◌≡◌, ap, ◌∙◌}
use borrow.Author.Rules.{rules}
use lib.ListN.{length, take}
use Rattle.numbers.specs.Refusal.{refusal_of}
use Rattle.min_max_spec.specs.Call.{grid_number}
use Rattle.recipe_spec.specs.Before.{windows_judged}
use Rattle.recipe_play.proofs.Passes.{after, after-all, next-accepted, next-played, length-after}
use Rattle.recipe_play.proofs.steps.play_steps.Goals as goal

pub loop-k-init : goal.loop-k-init
loop-k-init c =
    let s = c in
    let a = s.args in
    let few : a.count ≤ length a.steps = omega (arith, s.well_formed.1.0.1.0.1) in
    let f = c.first_steps-k in
    let e = f.ensures in
    let p = rw c.from-n.ensures at e.3 in
    (search rules, e.0, e.1, e.2, ap length p ∙ length-after a.shape.now a.steps a.count a.«data».now few f.result, p)

pub step_pass-requires : goal.step_pass-requires
step_pass-requires c =
    let s = c in
    let a = s.args in
    let few : a.count ≤ length a.steps = omega (arith, s.well_formed.1.0.1.0.1) in
    let g : grid_number a.shape.now a.«data».now ≡ 0 = search rules in
    let w : refusal_of (windows_judged a.shape.now (take a.count a.steps)) ≡ 0 = search rules in
    let l = c.loop-k in (
      next-accepted a.shape.now a.steps a.count a.«data».now few g w l.k (omega arith) l.invariant.5,
      omega (
        arith,
        ap length l.invariant.5,
        length-after a.shape.now a.steps
            a.count a.«data».now few l.k,
      ),
    )

pub step_pass-requires-in-loop-k : goal.step_pass-requires-in-loop-k
step_pass-requires-in-loop-k c =
    let s = c in
    let a = s.args in
    let few : a.count ≤ length a.steps = omega (arith, s.well_formed.1.0.1.0.1) in
    let g : grid_number a.shape.now a.«data».now ≡ 0 = search rules in
    let w : refusal_of (windows_judged a.shape.now (take a.count a.steps)) ≡ 0 = search rules in
    let l = c.loop-k in
    let more : l.k + 1 < a.count = omega (arith, l.invariant.2) in
    let e = next-played a.shape.now a.steps a.count a.«data».now few l.k (omega arith) l.invariant.5 c.step_pass.ensures in (
      next-accepted a.shape.now a.steps a.count a.«data».now few g w (l.k + 1) more e,
      omega (
        arith,
        ap length e,
        length-after a.shape.now a.steps a.count
            a.«data».now few (l.k + 1),
        ap length l.invariant.5,
        length-after a.shape.now a.steps a.count a.«data».now few l.k,
      ),
    )

pub loop-k-preserved : goal.loop-k-preserved
loop-k-preserved c =
    let s = c in
    let a = s.args in
    let few : a.count ≤ length a.steps = omega (arith, s.well_formed.1.0.1.0.1) in
    let l = c.loop-k in
    let more : l.k + 1 < a.count = omega (arith, l.invariant.2) in
    let e = next-played a.shape.now a.steps a.count a.«data».now few l.k (omega arith) l.invariant.5 c.step_pass.ensures in
    let two : l.k + 1 + 1 ≡ l.k + 2 = omega arith in
    let last = next-played a.shape.now a.steps a.count a.«data».now few (l.k + 1) more e c.step_pass-in-loop-k.ensures ∙ ap (after a.shape.now a.steps a.count
    a.«data».now few) two in (
      search rules,
      omega arith,
      omega (arith, l.invariant.2),
      ap length e ∙ length-after a.shape.now a.steps a.count a.«data».now few (l.k + 1),
      ap length last ∙ length-after a.shape.now a.steps a.count a.«data».now few (l.k + 2),
      last,
    )

pub returns : goal.returns
returns c =
    let s = c in
    let a = s.args in
    let few : a.count ≤ length a.steps = omega (arith, s.well_formed.1.0.1.0.1) in
    c.loop-k.invariant.5 ∙ after-all a.shape.now a.steps a.count a.«data».now few c.loop-k.k (omega arith)
