-- `first_steps` meets its contract: one step or two, so that an even number is left.
use Prim.Native.Nat.{◌≤◌, ◌<◌}
use native.Mathlib.Omega.{arith}
use mathlib.Core.Path.{◌≡◌, ap, ◌∙◌}
use borrow.Author.Rules.{rules}
use lib.ListN.{length, take}
use Rattle.numbers.specs.Refusal.{refusal_of}
use Rattle.min_max_spec.specs.Call.{grid_number}
use Rattle.recipe_spec.specs.Before.{windows_judged}
use Rattle.recipe_play.proofs.Passes.{after_none, next-accepted, next-played, length-after}
use Rattle.recipe_play.proofs.steps.first_steps.Goals as goal

pub step_pass-requires : goal.step_pass-requires
step_pass-requires c =
    let s = c in
    let a = s.args in
    let few : a.n ≤ length a.steps = omega (arith, s.well_formed.1.0.1.0.1) in
    let g : grid_number a.shape.now a.«data».now ≡ 0 = search rules in
    let w : refusal_of (windows_judged a.shape.now (take a.n a.steps)) ≡ 0 = search rules in
    (next-accepted a.shape.now a.steps a.n a.«data».now few g w 0 (omega arith) (after_none a.shape.now a.steps a.n a.«data».now few), search rules)

pub returns-then-n-eq1 : goal.returns-then-n-eq1
returns-then-n-eq1 c =
    let s = c in
    let a = s.args in
    let few : a.n ≤ length a.steps = omega (arith, s.well_formed.1.0.1.0.1) in (
      omega arith,
      omega (arith, c.if-n-eq1.true),
      search rules,
      next-played a.shape.now a.steps a.n a.«data».now few 0 (omega arith) (after_none a.shape.now a.steps a.n a.«data».now few) c.step_pass.ensures,
    )

pub step_pass-requires-2 : goal.step_pass-requires-2
step_pass-requires-2 c =
    let s = c in
    let a = s.args in
    let few : a.n ≤ length a.steps = omega (arith, s.well_formed.1.0.1.0.1) in
    let g : grid_number a.shape.now a.«data».now ≡ 0 = search rules in
    let w : refusal_of (windows_judged a.shape.now (take a.n a.steps)) ≡ 0 = search rules in
    (next-accepted a.shape.now a.steps a.n a.«data».now few g w 0 (omega arith) (after_none a.shape.now a.steps a.n a.«data».now few), search rules)

pub step_pass-requires-3 : goal.step_pass-requires-3
step_pass-requires-3 c =
    let s = c in
    let a = s.args in
    let few : a.n ≤ length a.steps = omega (arith, s.well_formed.1.0.1.0.1) in
    let g : grid_number a.shape.now a.«data».now ≡ 0 = search rules in
    let w : refusal_of (windows_judged a.shape.now (take a.n a.steps)) ≡ 0 = search rules in
    let more : 1 < a.n = omega (arith, c.if-n-eq1.false) in
    let e = next-played a.shape.now a.steps a.n a.«data».now few 0 (omega arith) (after_none a.shape.now a.steps a.n a.«data».now few)
    c.step_pass-2.ensures in
    (next-accepted a.shape.now a.steps a.n a.«data».now few g w 1 more e, omega (arith, ap length e, length-after a.shape.now a.steps a.n a.«data».now few 1))

pub returns : goal.returns
returns c =
    let s = c in
    let a = s.args in
    let few : a.n ≤ length a.steps = omega (arith, s.well_formed.1.0.1.0.1) in
    let more : 1 < a.n = omega (arith, c.if-n-eq1.false) in
    let e = next-played a.shape.now a.steps a.n a.«data».now few 0 (omega arith) (after_none a.shape.now a.steps a.n a.«data».now few)
    c.step_pass-2.ensures in (
      omega arith,
      omega (arith, c.if-n-eq1.false),
      ap length e ∙ length-after a.shape.now a.steps a.n a.«data».now few 1,
      next-played a.shape.now a.steps a.n a.«data».now few 1 more e c.step_pass-3.ensures,
    )
