-- `rows` meets its contract: every row holds by computing.
use mathlib.Core.Path.{refl}
use Rattle.words.specs.Words.{column_from, place_in}
use Rattle.words.proofs.rows.Goals as goal

pub returns : goal.returns
unfolding column_from place_in
returns c = record {
  words = refl;
  no_space_behind = refl;
  nothing = refl;
  line_words = refl;
  line_rests = refl;
  lines = refl;
  first = refl;
  second = refl;
  beginning = refl;
  longer = refl;
  empty = refl;
  twice = refl;
}
