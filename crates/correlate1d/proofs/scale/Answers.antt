-- `scale` meets its contract: the output is filled from the front with products, each of which fits.
use mathlib.Core.Path.{sym, ap, ◌∙◌}
use native.Mathlib.Omega.{arith}
use lib.IntN.{pos, ◌*ℤ◌}
use lib.ListN.{get_or}
use mir.Syntax.{w64}
use mir.ValLaws.{to_z-of_z}
use Rattle.numbers.specs.Lists.{tabulate}
use Rattle.numbers.proofs.Stored.{front-none, front-more, front-all}
use Rattle.correlate_spec.proofs.Mapped.{map_table}
use Rattle.correlate_spec.proofs.Computed.{computed_read}
use Rattle.correlate1d.proofs.Stores.{scaled}
use Rattle.correlate1d.proofs.scale.Goals as goal

pub loop-i-init : goal.loop-i-init
loop-i-init c = front-none (pos 0) _ _

pub overflow_mul-out : goal.overflow_mul-out
overflow_mul-out c = (scaled c.requires c.loop-i.i).fits

pub loop-i-preserved : goal.loop-i-preserved
loop-i-preserved c =
    let a = c.args in
    let l = c.loop-i in
    front-more (pos 0) _ _ (omega arith) l.invariant
    (computed_read (scaled c.requires l.i) ∙ ap (λ x. get_or a.«data».now l.i (pos 0) *ℤ x) (sym (to_z-of_z w64 a.weight c.ranges.weight)))

pub returns : goal.returns
returns c =
    let a = c.args in
    front-all (pos 0) _ (omega arith) c.loop-i.invariant
    ∙ (λ j. tabulate (λ k. get_or a.«data».now k (pos 0) *ℤ to_z-of_z w64 a.weight c.ranges.weight j) 0 (c.requires.same j))
    ∙ sym (map_table (pos 0) (λ x. x *ℤ a.weight) a.«data».now)
