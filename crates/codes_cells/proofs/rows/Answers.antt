-- `rows` meets its contract: every row holds by computing.
use mathlib.Core.Path.{refl}
use Rattle.numbers.specs.Lists.{tabulate}
use Rattle.codes.specs.Codes.{kernel_of, mode_of}
use Rattle.codes_cells.proofs.rows.Goals as goal

pub returns : goal.returns
unfolding tabulate kernel_of mode_of
returns c =
    record {
      modes = refl;
      missing = refl;
      known = refl;
      unknown_first = refl;
      unknown_last = refl;
      unknown_missing = refl;
      past_the_axes = refl;
      pairs = refl;
      star = refl;
    }
