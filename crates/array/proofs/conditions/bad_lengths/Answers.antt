-- `bad_lengths` meets its contract: the count that the code compares with is condition 2's.
use mathlib.Core.Path.{ap, ◌∙◌}
use mathlib.Core.Bool.{not}
use lib.Dec.{eqb}
use Rattle.numbers.specs.Lists.{any_of}
use Rattle.array.proofs.conditions.bad_lengths.Goals as goal

pub returns : goal.returns
returns c =
    let b = c.before in
    c.any_other.ensures ∙ ap (λ n. any_of (λ len. not (eqb len n)) b.args.lent.now) b.cell_count.ensures
