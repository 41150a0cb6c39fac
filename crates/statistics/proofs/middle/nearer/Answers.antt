-- `nearer` meets its contract: `y` is the level or the top, and the lesser of it and `least` is taken.
use mathlib.Core.Path.{◌≡◌, sym, ◌∙◌}
use lib.Signed.{le_z}
use mir.Syntax.{w32}
use mir.Val.{to_z, of_z}
use mir.ValLaws.{to_z-of_z}
use Rattle.numbers.proofs.Lesser.{lesser}
use Rattle.numbers.proofs.Read.{read_at_lem}
use Rattle.numbers.proofs.Tests.{cond_yes, cond_no}
use Rattle.statistics_extremes.proofs.Running.{min_is}
use Rattle.statistics_spec.specs.Sorting.{past}
use Rattle.statistics.proofs.middle.nearer.Goals as goal
use Rattle.statistics.proofs.middle.nearer.Goals.{then-level-z, else-level-z}

pub returns : goal.returns
returns c =
    let a = c.args in
    let level_is = to_z-of_z w32 _ c.ranges.level in
    let z_is = to_z-of_z w32 _ c.ranges.z in
    let y_is : to_z w32 c.if-level-z.y-bits ≡ past le_z a.z a.top a.level =
    elim c.if-level-z.branch [
      | then-level-z w ↦ w.y-is ∙ to_z-of_z w32 _ c.ranges.top ∙ sym (cond_yes _ a.top a.level (rw (level_is, z_is) at w.if-level-z.true))
      | else-level-z w ↦ w.y-is ∙ level_is ∙ sym (cond_no _ a.top a.level (rw (level_is, z_is) at w.if-level-z.false))
    ] in
    read_at_lem w32 c.min.type_inv
    (c.min.ensures.value ∙ min_is (to_z w32 (of_z w32 a.least)) (to_z w32 c.if-level-z.y-bits)
    ∙ (λ j. lesser le_z (to_z-of_z w32 _ c.ranges.least j) (y_is j)))
