-- `median_in` meets its contract: the copy is the line, so their middle levels are one.
use mathlib.Core.Path.{sym, ap, ◌∙◌}
use native.Mathlib.Omega.{arith}
use lib.ListN.{length}
use Rattle.numbers.proofs.Read.{read}
use Rattle.statistics_spec.specs.Statistics.{minimum_of, maximum_of, median_of, unserved}
use Rattle.statistics.proofs.middle.median_in.Goals as goal

pub middle_level-requires : goal.middle_level-requires
middle_level-requires c =
    let n = c in
    let e = n.narrow.ensures in record {
      levels_value = ap unserved e ∙ n.requires.line_value;
      low_value = read c.minimum-low.type_inv c.minimum-low.ensures
          ∙ ap minimum_of (sym e);
      high_value = read c.maximum-high.type_inv c.maximum-high.ensures ∙ ap maximum_of (sym e);
      levels_nonzero = omega (arith, ap length e, n.requires.line_nonzero);
    }

pub returns : goal.returns
returns c = read c.middle_level.type_inv (c.middle_level.ensures ∙ ap median_of c.narrow.ensures)
