-- `judge` meets its contract: condition 12, which it does not ask about, never holds where the others do not.
use mathlib.Core.List.{[], ◌∷◌}
use Rattle.numbers.proofs.Tests.{condition_is}
use Rattle.array_spec.specs.Conditions.{bad_level}
use Rattle.array_spec.proofs.Judged.{grid_ends}
use Rattle.pad_spec.specs.Conditions.{bad_constant, bad_pads, bad_pad_reach, bad_pad_sums}
use Rattle.pad_spec.proofs.Sizes.{no_bad_sums}
use Rattle.pad_judge.proofs.judge.Goals as goal

pub returns : goal.returns
returns c =
    let a = c.args in
    let ns = a.shape.now in
    grid_ends bad_level ns a.«data».now []
    ((bad_constant a.mode, 9) ∷ (bad_pads ns a.pads a.count a.out, 10) ∷ (bad_pad_reach a.mode ns a.pads a.count, 11) ∷ [])
    (bad_pad_sums a.mode ns a.pads a.count a.«data».now) 12 (tt, (tt, (tt, tt))) c.in_ok-judge_grid.ensures
    (simp (
      condition_is c.bad_constant.ensures c.if-bad_constant.false,
      condition_is c.bad_pads.ensures c.if-bad_pads.false,
      condition_is c.bad_reach.ensures c.if-bad_reach.false,
    ))
    (λ G p. no_bad_sums a.mode ns a.pads a.count a.«data».now G.shape G.levels p.0)
