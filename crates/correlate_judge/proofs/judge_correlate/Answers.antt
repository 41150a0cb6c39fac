-- `judge_correlate` meets its contract: the grid's number, or the number of the weights and their place; condition 12 never holds.
use mathlib.Core.Path.{◌≡◌, refl}
use mathlib.Core.List.{[], ◌∷◌, ◌++◌}
use mir.Syntax.{w64}
use mir.Val.{to_z, of_z}
use lib.ListN.{length}
use Rattle.array_spec.specs.Conditions.{bad_level}
use Rattle.array_spec.proofs.Judged.{grid_ends}
use Rattle.border.specs.Modes.{border_of}
use Rattle.correlate_judge_spec.specs.Judge.{bad_weight, weights_judged, place_judged, bad_correlate_sums}
use Rattle.correlate_judge_spec.proofs.Sums.{no_bad_sums}
use Rattle.correlate_judge_spec.proofs.Chain.{weighed}
use borrow.Author.Rules.{rules}
use Rattle.correlate_judge.proofs.judge_correlate.Goals as goal

pub returns : goal.returns
returns c =
    let a = c.args in
    let e : to_z w64 (of_z w64 a.origin) ≡ a.origin = search rules in
    let b = border_of a.mode in
    let w = a.weights.now in
    grid_ends bad_level a.shape.now a.«data».now (a.out ∷ []) (weights_judged bad_weight w
    ++ place_judged bad_level a.convolution b a.origin (length w) a.shape.now a.axis)
    (bad_correlate_sums a.convolution b a.origin w a.shape.now a.axis a.«data».now) 12 (tt, (tt, (tt, (tt, (tt, (tt, tt)))))) c.in_ok-judge_grid.ensures
    (weighed bad_weight bad_level a.convolution b w a.shape.now a.axis b c.bad_weights-weights_bad.ensures c.bad_constant-constant_bad.ensures (λ n pad. refl) e c.judge_weighing.ensures)
    (λ G p. no_bad_sums a.convolution b a.origin w a.shape.now a.axis a.«data».now G.levels p.0 p.1.0 p.1.1.1.1.0)
