-- The bytes that a number is written with.
--   glyph_of d           the byte of a digit below 16
--   digits_of b k n      the last k digits of n in base b, the most significant first
--   places_of f n        how many decimal digits n has, at most f + 1
--   decimal_text n       those digits, of a number of at most 19
--   signed_text z        the same after a minus where z is below 0
--   written_in t l       t at the front of l, where l has 20 places; else l as it was
--   written_count t l    the length of t, or 0
use Rattle.std.specs.Prelude.{ℕ, zero, suc, ◌+◌, ◌/◌, ◌%◌, cond, List, [], ◌∷◌, ◌++◌, ltb, ℤ, pos, negsuc, length, drop}

abbrev pub glyph_of : ℕ → ℕ
glyph_of d = cond (ltb d 10) (48 + d) (87 + d)

abbrev pub digits_of : ℕ → ℕ → ℕ → List ℕ
digits_of b zero n = []
digits_of b (suc k) n = digits_of b k (n / b) ++ (glyph_of (n % b) ∷ [])

unfoldable pub places_of : ℕ → ℕ → ℕ
places_of zero n = 1
places_of (suc f) n = cond (ltb n 10) 1 (suc (places_of f (n / 10)))

abbrev pub decimal_text : ℕ → List ℕ
decimal_text n = digits_of 10 (places_of 18 n) n

abbrev pub signed_text : ℤ → List ℕ
signed_text (pos n) = decimal_text n
signed_text (negsuc n) = 45 ∷ decimal_text (suc n)

abbrev pub written_in : List ℕ → List ℕ → List ℕ
written_in t l = cond (ltb (length l) 20) l (t ++ drop (length t) l)

abbrev pub written_count : List ℕ → List ℕ → ℕ
written_count t l = cond (ltb (length l) 20) 0 (length t)
