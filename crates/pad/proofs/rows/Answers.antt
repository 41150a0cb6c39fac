-- `rows` meets its contract: every row holds by computing.
use mathlib.Core.Path.{refl}
use Rattle.numbers.specs.Lists.{tabulate}
use Rattle.array_spec.specs.Grid.{place_of, coordinate}
use Rattle.border.specs.Border.{cell_for, extended_lane}
use Rattle.pad_line.specs.Line.{padded_at}
use Rattle.pad_spec.specs.Levels.{level_to}
use Rattle.pad.specs.Laid.{laid}
use Rattle.pad.proofs.rows.Goals as goal

pub returns : goal.returns
unfolding tabulate place_of coordinate cell_for extended_lane padded_at level_to laid
returns c = record {
  laid_constant = refl;
  laid_edge = refl;
  laid_maximum = refl;
}
