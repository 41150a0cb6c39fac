-- `passes` meets its contract: every pass is accepted, and the passes are those of the answer.
use mathlib.Core.Path.{◌∙◌}
use native.Mathlib.Omega.{arith}
use Rattle.array_spec.proofs.Judged.{axes_three}
use Rattle.lanes.proofs.Passes.{three_passes}
use Rattle.border.specs.Axes.{borders_of}
use Rattle.uniform_spec.specs.Uniform.{uniform1d}
use Rattle.uniform.proofs.Accepted.{Filtered, filtered, between_input, pass_accepted, between_pass}
use Rattle.uniform.proofs.passes.Goals as goal

pub pass-requires : goal.pass-requires
pass-requires c =
    let a = c.args in
    let F : Filtered (borders_of a.modes) a.size a.shape.now a.«data».now a.out.now a.second.now = filtered a.out.now a.second.now c.requires in
    pass_accepted F (between_input F) F.grid.lengths.0 (omega (arith, c.if-axes-eq1.true))

pub pass-requires-then-axes-eq2 : goal.pass-requires-then-axes-eq2
pass-requires-then-axes-eq2 c =
    let a = c.args in
    let F : Filtered (borders_of a.modes) a.size a.shape.now a.«data».now a.out.now a.second.now = filtered a.out.now a.second.now c.requires in
    pass_accepted F (between_input F) F.grid.lengths.1.0 (omega (arith, c.if-axes-eq2.true))

pub pass-requires-then-axes-eq2-2 : goal.pass-requires-then-axes-eq2-2
pass-requires-then-axes-eq2-2 c =
    let a = c.args in
    let n = c.if-axes-eq2.true in
    let F : Filtered (borders_of a.modes) a.size a.shape.now a.«data».now a.out.now a.second.now = filtered a.out.now a.second.now c.requires in
    pass_accepted F (between_pass F 0 (omega (arith, n)) (between_input F) c.pass-then-axes-eq2.ensures) F.grid.lengths.0 (omega (arith, n))

pub pass-requires-2 : goal.pass-requires-2
pass-requires-2 c =
    let a = c.args in
    let F : Filtered (borders_of a.modes) a.size a.shape.now a.«data».now a.out.now a.second.now = filtered a.out.now a.second.now c.requires in
    let n = axes_three F.grid c.if-axes-eq1.false c.if-axes-eq2.false in
    pass_accepted F (between_input F) F.grid.lengths.0 (omega (arith, n))

pub pass-requires-3 : goal.pass-requires-3
pass-requires-3 c =
    let a = c.args in
    let F : Filtered (borders_of a.modes) a.size a.shape.now a.«data».now a.out.now a.second.now = filtered a.out.now a.second.now c.requires in
    let n = axes_three F.grid c.if-axes-eq1.false c.if-axes-eq2.false in
    pass_accepted F (between_pass F 0 (omega (arith, n)) (between_input F) c.pass-2.ensures) F.grid.lengths.1.0 (omega (arith, n))

pub pass-requires-4 : goal.pass-requires-4
pass-requires-4 c =
    let a = c.args in
    let F : Filtered (borders_of a.modes) a.size a.shape.now a.«data».now a.out.now a.second.now = filtered a.out.now a.second.now c.requires in
    let n = axes_three F.grid c.if-axes-eq1.false c.if-axes-eq2.false in
    pass_accepted F (between_pass F 1 (omega (arith, n)) (between_pass F 0 (omega (arith, n)) (between_input F) c.pass-2.ensures) c.pass-3.ensures)
    (c.pass-2.auto.out ∙ F.grid.lengths.0) (omega (arith, n))

pub returns : goal.returns
returns c =
    let a = c.args in
    let F : Filtered (borders_of a.modes) a.size a.shape.now a.«data».now a.out.now a.second.now = filtered a.out.now a.second.now c.requires in
    three_passes (λ k. uniform1d (borders_of a.modes k) a.size a.shape.now k) a.«data».now (axes_three F.grid c.if-axes-eq1.false c.if-axes-eq2.false)
    c.pass-2.ensures c.pass-3.ensures c.pass-4.ensures
