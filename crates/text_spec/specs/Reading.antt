-- The number that a token of bytes is.
--   digit_of x          the digit that the byte x is, 0 to 15, or 16 where it is none
--   value_of b n t      the digits of t in base b, after the number n
--   numeral_from b n t  that number, unless a byte of t is no digit of base b or the number is beyond 2^64 − 1
--   numeral_of b t      the same after nothing; an empty token is no number
--   unsigned_of t       in base 10
--   positive_of u       u as a signed number, negative_of u its negative; None where 64 bits do not hold it
--   signed_of t         in base 10, after a minus or not
use Rattle.std.specs.Prelude.{ℕ, ◌+◌, ◌-◌, ◌*◌, ◌^◌, Bool, ◌||◌, cond, List, [], ◌∷◌, leb, ltb, eqb, ℤ, pos, neg_ℤ, length, get_or, drop, Option, Some, None}
use Rattle.numbers.specs.Lists.{any_of}

abbrev pub digit_of : ℕ → ℕ
digit_of x = cond (ltb x 48) 16 (cond (ltb x 58) (x - 48) (cond (ltb x 97) 16 (cond (ltb x 103) (x - 87) 16)))

abbrev pub no_digit : ℕ → ℕ → Bool
no_digit b x = leb b (digit_of x)

abbrev pub value_of : ℕ → ℕ → List ℕ → ℕ
value_of b n [] = n
value_of b n (x ∷ t) = value_of b (n * b + digit_of x) t

unfoldable pub numeral_from : ℕ → ℕ → List ℕ → Option ℕ
numeral_from b n t = cond (any_of (no_digit b) t || leb (2 ^ 64) (value_of b n t)) None (Some (value_of b n t))

abbrev pub numeral_of : ℕ → List ℕ → Option ℕ
numeral_of b t = cond (eqb (length t) 0) None (numeral_from b 0 t)

abbrev pub unsigned_of : List ℕ → Option ℕ
unsigned_of t = numeral_of 10 t

abbrev pub positive_of : Option ℕ → Option ℤ
positive_of None = None
positive_of (Some n) = cond (ltb n (2 ^ 63)) (Some (pos n)) None

abbrev pub negative_of : Option ℕ → Option ℤ
negative_of None = None
negative_of (Some n) = cond (leb n (2 ^ 63)) (Some (neg_ℤ (pos n))) None

abbrev pub signed_of : List ℕ → Option ℤ
signed_of t = cond (eqb (get_or t 0 0) 45) (negative_of (unsigned_of (drop 1 t))) (positive_of (unsigned_of t))
