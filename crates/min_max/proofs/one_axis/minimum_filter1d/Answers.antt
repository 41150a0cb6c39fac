-- `min_max::one_axis::minimum_filter1d` meets its contract: the worker's, in the order of the least.
use mathlib.Core.Path.{◌≡◌}
use mir.Syntax.{w64}
use mir.Val.{to_z, of_z}
use borrow.Author.Rules.{rules}
use Rattle.min_max.proofs.one_axis.minimum_filter1d.Goals as goal

pub returns : goal.returns
returns c =
    let a = c.args in
    let e : to_z w64 (of_z w64 a.origin) ≡ a.origin = search rules in
    rw e at c.filter1d.ensures
