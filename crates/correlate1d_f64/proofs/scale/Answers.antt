-- `scale` meets its contract: the output is filled from the front with products.
use mathlib.Core.Path.{refl, sym, ap, ◌∙◌}
use native.Mathlib.Omega.{arith}
use lib.Ieee.{binary64, mul, nan}
use lib.ListN.{get_or}
use Rattle.numbers.specs.Lists.{tabulate}
use Rattle.numbers.proofs.Stored.{front-none, front-more, front-all}
use Rattle.correlate_spec.proofs.Mapped.{map_table}
use Rattle.correlate1d_f64.proofs.scale.Goals as goal

pub loop-i-init : goal.loop-i-init
loop-i-init c = front-none nan _ _

pub loop-i-preserved : goal.loop-i-preserved
loop-i-preserved c = front-more nan _ _ (omega arith) c.loop-i.invariant refl

pub returns : goal.returns
returns c =
    let a = c.args in
    front-all nan _ (omega arith) c.loop-i.invariant ∙ ap (tabulate (λ k. mul binary64 (get_or a.«data».now k nan) a.weight) 0) c.requires
    ∙ sym (map_table nan (λ x. mul binary64 x a.weight) a.«data».now)
