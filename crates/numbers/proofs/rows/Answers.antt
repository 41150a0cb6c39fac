-- `rows` meets its contract: every row holds by computing.
-- Assumes nothing.
use mathlib.Core.Path.{refl}
use Rattle.numbers.specs.Lists.{tabulate}
use Rattle.numbers.specs.Windows.{window_of}
use Rattle.numbers.proofs.rows.Goals as goal

pub returns : goal.returns
unfolding tabulate window_of
returns c = record {
  lowest = refl;
  accepted = refl;
  owner_numbers = refl;
  author_numbers = refl;
  operator_numbers = refl;
  other_numbers = refl;
  answers = refl;
  refused_keeps = refl;
  accepted_fills = refl;
  scratch_zero = record { filled = record { number = refl; cells = refl }; cleared = refl };
  scratch_kept = record { filled = record { number = refl; cells = refl }; cleared = refl };
  extreme-first = refl;
  extreme-last = refl;
  greatest_inside = refl;
  extreme-none = refl;
  table = refl;
  range = refl;
  some_member = refl;
  no_member = refl;
  windows = refl;
  limits = refl;
  limits_lines = refl;
  limits_levels = refl;
  ends = refl;
  sizes = refl;
  signed_ends = refl;
  bits = refl;
  sum = refl;
  cut = refl;
}
