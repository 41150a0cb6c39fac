-- Worked rows about numbers as text, with both sides of each limit.
--   TextSpecRows   the rows
use Rattle.std.specs.Prelude.{ℕ, ◌-◌, ◌^◌, ◌≡◌, List, [], ◌∷◌, ◌++◌, pos, Some, None}
use Rattle.numbers.specs.Rows.{minus}
use Rattle.text_spec.specs.Reading.{numeral_of, unsigned_of, signed_of}
use Rattle.text_spec.specs.Writing.{signed_text, digits_of, written_in, written_count}

-- 1844674407370955161
abbrev pub tenth : List ℕ
tenth = 49 ∷ 56 ∷ 52 ∷ 52 ∷ 54 ∷ 55 ∷ 52 ∷ 52 ∷ 48 ∷ 55 ∷ 51 ∷ 55 ∷ 48 ∷ 57 ∷ 53 ∷ 53 ∷ 49 ∷ 54 ∷ 49 ∷ []

-- 922337203685477580
abbrev pub half : List ℕ
half = 57 ∷ 50 ∷ 50 ∷ 51 ∷ 51 ∷ 55 ∷ 50 ∷ 48 ∷ 51 ∷ 54 ∷ 56 ∷ 53 ∷ 52 ∷ 55 ∷ 55 ∷ 53 ∷ 56 ∷ 48 ∷ []

pub record TextSpecRows : Type 0 where
  pub zeros-before : unsigned_of (48 ∷ 48 ∷ 52 ∷ 50 ∷ []) ≡ Some 42
  pub nothing : unsigned_of [] ≡ None
  pub plus : unsigned_of (43 ∷ 49 ∷ []) ≡ None
  pub no_digit_after : unsigned_of (49 ∷ 58 ∷ []) ≡ None
  pub letter : unsigned_of (97 ∷ []) ≡ None
  pub greatest : unsigned_of (tenth ++ (53 ∷ [])) ≡ Some (2 ^ 64 - 1)
  pub one_more_lem : unsigned_of (tenth ++ (54 ∷ [])) ≡ None
  pub much_more : unsigned_of (tenth ++ (48 ∷ 48 ∷ [])) ≡ None
  pub hexadecimal : numeral_of 16 (102 ∷ 102 ∷ []) ≡ Some 255
  pub upper_case : numeral_of 16 (70 ∷ []) ≡ None
  pub below : signed_of (45 ∷ 48 ∷ 55 ∷ []) ≡ Some (minus 7)
  pub minus-alone : signed_of (45 ∷ []) ≡ None
  pub minus_twice : signed_of (45 ∷ 45 ∷ 49 ∷ []) ≡ None
  pub extreme : signed_of (45 ∷ (half ++ (56 ∷ []))) ≡ Some (minus (2 ^ 63))
  pub least_less : signed_of (45 ∷ (half ++ (57 ∷ []))) ≡ None
  pub most : signed_of (half ++ (55 ∷ [])) ≡ Some (pos (2 ^ 63 - 1))
  pub most_more : signed_of (half ++ (56 ∷ [])) ≡ None
  pub zero_text : signed_text (pos 0) ≡ 48 ∷ []
  pub ten_text : signed_text (pos 10) ≡ 49 ∷ 48 ∷ []
  pub minus_text : signed_text (minus 7) ≡ 45 ∷ 55 ∷ []
  pub least_text : signed_text (minus (2 ^ 63)) ≡ 45 ∷ (half ++ (56 ∷ []))
  pub last_digits : digits_of 10 2 1234 ≡ 51 ∷ 52 ∷ []
  pub hex_digits : digits_of 16 2 171 ≡ 97 ∷ 98 ∷ []
  pub short_out : written_in (49 ∷ []) (1 ∷ 2 ∷ []) ≡ 1 ∷ 2 ∷ []
  pub short_count : written_count (49 ∷ []) (1 ∷ 2 ∷ []) ≡ 0
