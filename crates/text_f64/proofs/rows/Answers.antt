-- `rows` meets its contract: every row holds by computing.
use mathlib.Core.Path.{refl}
use lib.Ieee.{of_bits, to_bits, is_nan}
use Rattle.text_spec.specs.Reading.{numeral_from}
use Rattle.text_f64.proofs.rows.Goals as goal

pub returns : goal.returns
unfolding of_bits to_bits is_nan numeral_from
returns c =
    record {
      one = refl;
      minus_zero = refl;
      infinite = refl;
      extreme = refl;
      quiet = refl;
      signed_nan = refl;
      by_name = refl;
      short = refl;
      long = refl;
      upper = refl;
      nothing = refl;
      other_name = refl;
      one_text = refl;
      minus_zero_text = refl;
      nan_text_lem = refl;
    }
