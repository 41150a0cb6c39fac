-- Bytes as a token: two hexadecimal digits each, of which the letters are small; `-` for none.
--   is_dash t      whether the token is `-`
--   bad_bytes t    whether it stands for no bytes
--   byte_count t   how many bytes it stands for: half its length, which is 0 for `-`
--   byte_at t k    byte k of them
--   bytes_over t l the list l with these bytes in its front, as many as it has room for
use Rattle.std.specs.Prelude.{ℕ, ◌+◌, ◌*◌, ◌/◌, ◌%◌, min, Bool, not, ◌&&◌, ◌||◌, List, ◌++◌, eqb, length, get_or, drop}
use Rattle.numbers.specs.Lists.{any_of, tabulate}
use Rattle.text_spec.specs.Reading.{digit_of, no_digit}

abbrev pub is_dash : List ℕ → Bool
is_dash t = eqb (length t) 1 && eqb (get_or t 0 0) 45

abbrev pub bad_bytes : List ℕ → Bool
bad_bytes t = not (is_dash t) && (not (eqb (length t % 2) 0) || any_of (no_digit 16) t)

abbrev pub byte_count : List ℕ → ℕ
byte_count t = length t / 2

abbrev pub byte_at : List ℕ → ℕ → ℕ
byte_at t k = (16 * digit_of (get_or t (2 * k) 0) + digit_of (get_or t (2 * k + 1) 0)) % 256

abbrev pub bytes_over : List ℕ → List ℕ → List ℕ
bytes_over t l = tabulate (byte_at t) 0 (min (byte_count t) (length l)) ++ drop (min (byte_count t) (length l)) l
