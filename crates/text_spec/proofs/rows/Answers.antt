-- `rows` meets its contract: every row holds by computing.
use mathlib.Core.Path.{refl}
use Rattle.text_spec.specs.Reading.{numeral_from}
use Rattle.text_spec.specs.Writing.{places_of}
use Rattle.text_spec.proofs.rows.Goals as goal

pub returns : goal.returns
unfolding numeral_from places_of
returns c =
    record {
      zeros-before = refl;
      nothing = refl;
      plus = refl;
      no_digit_after = refl;
      letter = refl;
      greatest = refl;
      one_more_lem = refl;
      much_more = refl;
      hexadecimal = refl;
      upper_case = refl;
      below = refl;
      minus-alone = refl;
      minus_twice = refl;
      extreme = refl;
      least_less = refl;
      most = refl;
      most_more = refl;
      zero_text = refl;
      ten_text = refl;
      minus_text = refl;
      least_text = refl;
      last_digits = refl;
      hex_digits = refl;
      short_out = refl;
      short_count = refl;
    }
