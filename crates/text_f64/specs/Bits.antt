-- The float that a token of bytes is, and the bytes that a float is written with.
--   nan_text        nan
--   is_nan_text t    whether t is that
--   pattern_of u    the float whose bits u is; every NaN's pattern is nan
--   float_of t      nan, or 16 hexadecimal digits of the bits
--   float_text x    the same of a float
use Rattle.std.specs.Prelude.{ℕ, Bool, ◌&&◌, cond, List, [], ◌∷◌, eqb, Float, length, get_or, Option, Some, None}
use Rattle.std.specs.Float.{nan, binary64}
use Rattle.std.specs.Float.Ieee.{is_nan, of_bits, to_bits}
use Rattle.text_spec.specs.Reading.{numeral_of}
use Rattle.text_spec.specs.Writing.{digits_of}

abbrev pub nan_text : List ℕ
nan_text = 110 ∷ 97 ∷ 110 ∷ []

abbrev pub is_nan_text : List ℕ → Bool
is_nan_text t = eqb (length t) 3 && (eqb (get_or t 0 0) 110 && (eqb (get_or t 1 0) 97 && eqb (get_or t 2 0) 110))

abbrev pub pattern_of : Option ℕ → Option Float
pattern_of None = None
pattern_of (Some n) = Some (of_bits binary64 n)

abbrev pub float_of : List ℕ → Option Float
float_of t = cond (is_nan_text t) (Some nan) (cond (eqb (length t) 16) (pattern_of (numeral_of 16 t)) None)

abbrev pub float_text : Float → List ℕ
float_text x = cond (is_nan x) nan_text (digits_of 16 16 (to_bits binary64 x))
