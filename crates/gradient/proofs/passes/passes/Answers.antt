-- `passes` meets its contract: every pass can be weighed, and the passes are those of the answer.
use native.Mathlib.Omega.{arith}
use mathlib.Core.Path.{◌∙◌}
use lib.ListN.{length}
use Rattle.array_spec.proofs.Judged.{axes_three}
use Rattle.border.specs.Axes.{borders_of}
use Rattle.gradient.proofs.EachPass.{accepted, weighs_first, weighs_second, weighs_third, first_in_lem, last_in_lem, one_pass, two_passes, three_passes}
use Rattle.gradient.proofs.passes.passes.Goals as goal

pub pass_along-requires : goal.pass_along-requires
pass_along-requires c =
    let a = c.args in
    let A = accepted a.smooth.now (borders_of a.modes) a.shape.now a.axis a.«data».now (length a.out.now) (length a.second.now) c.requires.1 in
    weighs_first A A.grid.lengths.0

pub returns-then-axes-eq1 : goal.returns-then-axes-eq1
returns-then-axes-eq1 c =
    let a = c.args in
    let A = accepted a.smooth.now (borders_of a.modes) a.shape.now a.axis a.«data».now (length a.out.now) (length a.second.now) c.requires.1 in
    one_pass a.smooth.now (borders_of a.modes) a.shape.now a.«data».now A.along c.pass_along.ensures c.if-axes-eq1.true

pub pass_along-requires-then-axes-eq2 : goal.pass_along-requires-then-axes-eq2
pass_along-requires-then-axes-eq2 c =
    let a = c.args in
    let A = accepted a.smooth.now (borders_of a.modes) a.shape.now a.axis a.«data».now (length a.out.now) (length a.second.now) c.requires.1 in
    weighs_first A A.grid.lengths.1.0

pub pass_along-requires-then-axes-eq2-2 : goal.pass_along-requires-then-axes-eq2-2
pass_along-requires-then-axes-eq2-2 c =
    let a = c.args in
    let A = accepted a.smooth.now (borders_of a.modes) a.shape.now a.axis a.«data».now (length a.out.now) (length a.second.now) c.requires.1 in
    weighs_second A c.requires.0 c.pass_along-then-axes-eq2.ensures (first_in_lem a.axis c.first_other-first.ensures (omega (arith, c.if-axes-eq2.true))) A.grid.lengths.0

pub returns-then-axes-eq2 : goal.returns-then-axes-eq2
returns-then-axes-eq2 c =
    let a = c.args in
    let A = accepted a.smooth.now (borders_of a.modes) a.shape.now a.axis a.«data».now (length a.out.now) (length a.second.now) c.requires.1 in
    two_passes a.smooth.now (borders_of a.modes) a.shape.now a.«data».now A.along c.pass_along-then-axes-eq2.ensures c.first_other-first.ensures
    c.pass_along-then-axes-eq2-2.ensures c.if-axes-eq2.true

pub pass_along-requires-2 : goal.pass_along-requires-2
pass_along-requires-2 c =
    let a = c.args in
    let A = accepted a.smooth.now (borders_of a.modes) a.shape.now a.axis a.«data».now (length a.out.now) (length a.second.now) c.requires.1 in
    weighs_first A A.grid.lengths.0

pub pass_along-requires-3 : goal.pass_along-requires-3
pass_along-requires-3 c =
    let a = c.args in
    let A = accepted a.smooth.now (borders_of a.modes) a.shape.now a.axis a.«data».now (length a.out.now) (length a.second.now) c.requires.1 in
    let n = axes_three A.grid c.if-axes-eq1.false c.if-axes-eq2.false in
    weighs_second A c.requires.0 c.pass_along-2.ensures (first_in_lem a.axis c.first_other-first.ensures (omega (arith, n))) A.grid.lengths.1.0

pub pass_along-requires-4 : goal.pass_along-requires-4
pass_along-requires-4 c =
    let a = c.args in
    let A = accepted a.smooth.now (borders_of a.modes) a.shape.now a.axis a.«data».now (length a.out.now) (length a.second.now) c.requires.1 in
    let n = axes_three A.grid c.if-axes-eq1.false c.if-axes-eq2.false in
    weighs_third A c.requires.0 c.pass_along-2.ensures (first_in_lem a.axis c.first_other-first.ensures (omega (arith, n))) c.pass_along-3.ensures
    (last_in_lem a.axis c.last_other-last.ensures (omega (arith, n))) (c.pass_along-2.auto.out ∙ A.grid.lengths.0)

pub returns : goal.returns
returns c =
    let a = c.args in
    let A = accepted a.smooth.now (borders_of a.modes) a.shape.now a.axis a.«data».now (length a.out.now) (length a.second.now) c.requires.1 in
    three_passes a.smooth.now (borders_of a.modes) a.shape.now a.«data».now A.along c.pass_along-2.ensures c.first_other-first.ensures c.pass_along-3.ensures
    (axes_three A.grid c.if-axes-eq1.false c.if-axes-eq2.false) c.last_other-last.ensures c.pass_along-4.ensures
