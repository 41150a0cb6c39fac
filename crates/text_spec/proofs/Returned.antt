-- Reading what was written gives the number back, in any base and with a sign.
-- Assumes nothing.
use Prim.Native.Nat.{ℕ, zero, suc, ◌/◌, ◌%◌, ◌^◌, ◌≤◌, ◌<◌}
use native.Mathlib.Nat.{mod-lt}
use native.Mathlib.Omega.{arith}
use mathlib.Core.Path.{◌≡◌, refl, sym, ap, ◌∙◌}
use mathlib.Core.Bool.{false, true≢false}
use mathlib.Core.List.{List, [], ◌∷◌, ◌++◌}
use borrow.Author.Tests.{lt-ltb, le-leb, lt-leb, ne_eqb}
use lib.Dec.{eqb}
use lib.IntN.{ℤ, pos, negsuc}
use lib.ListN.{length, get_or}
use mir.Syntax.{w64}
use mir.Val.{SFits}
use Rattle.std.specs.Prelude.{Some}
use Rattle.numbers.specs.Lists.{Every}
use Rattle.numbers.proofs.Any.{none_any, every_at}
use Rattle.text_spec.specs.Reading.{digit_of, no_digit, numeral_from, numeral_of, positive_of, negative_of, signed_of}
use Rattle.text_spec.specs.Writing.{glyph_of, digits_of, places_of, decimal_text, signed_text}
use Rattle.text_spec.proofs.Digits.{digits_length, digit_glyph, digits_value, places-least, places_hold}

every_last : {A : Type 0} (P : A → Type 0) (s : List A) (x : A) → Every P s → P x → Every P (s ++ (x ∷ []))
every_last P [] x h p = (p, tt)
every_last P (y ∷ s) x h p = (h.0, every_last P s x h.1 p)

module _ (b : ℕ) (h : 1 < b) (l : b ≤ 16) where
  each_digit : (k n : ℕ) → Every (λ x. no_digit b x ≡ false) (digits_of b k n)
  each_digit zero n = tt
  each_digit (suc k) n = every_last _ (digits_of b k (n / b)) (glyph_of (n % b)) (each_digit k (n / b)) (lt-leb b (digit_of (glyph_of (n % b))) below)
    where
      small : n % b < b
      small = mod-lt n (omega arith)

      below : digit_of (glyph_of (n % b)) < b
      below = omega (arith, small, digit_glyph (n % b) (omega (arith, small)))

  pub numeral_back : (k n : ℕ) → 0 < k → n < b ^ k → n < 2 ^ 64 → numeral_of b (digits_of b k n) ≡ Some n
  unfolding numeral_from
  numeral_back k n p f g =
      rw (
        ne_eqb (length (digits_of b k n)) 0 (λ e. some (sym (digits_length b k n) ∙ e)),
        none_any (no_digit b) (digits_of b k n) (each_digit k n),
        digits_value b h l k n f,
        lt-leb (2 ^ 64) n g,
      )
      refl
    where
      some : k ≡ 0 → ⊥
      some e = omega arith

-- no digit is a minus
no_minus : (k n : ℕ) → 0 < k → eqb (get_or (digits_of 10 k n) 0 0) 45 ≡ false
no_minus k n p = ne_eqb (get_or (digits_of 10 k n) 0 0) 45 (λ e. true≢false (ap (no_digit 10) (sym e) ∙ first))
  where
    first : no_digit 10 (get_or (digits_of 10 k n) 0 0) ≡ false
    first = every_at (λ x. no_digit 10 x ≡ false) (digits_of 10 k n) 0 (each_digit 10 (omega arith) (omega arith) k n) 0 (omega (arith, digits_length 10 k n))

decimal_back : (n : ℕ) → n ≤ 2 ^ 63 → numeral_of 10 (decimal_text n) ≡ Some n
decimal_back n h =
    numeral_back 10 (omega arith) (omega arith) (places_of 18 n) n (places-least 18 n) (places_hold 18 n (omega arith)) (omega arith)

pub signed_back : (z : ℤ) → SFits w64 z → signed_of (signed_text z) ≡ Some z
signed_back (pos n) f =
    rw (no_minus (places_of 18 n) n (places-least 18 n))
    (ap positive_of (decimal_back n (omega (arith, f.sfits))) ∙ rw (lt-ltb n (2 ^ 63) f.sfits) refl)
signed_back (negsuc n) f =
    ap negative_of (decimal_back (suc n) f.sfits) ∙ rw (le-leb (suc n) (2 ^ 63) f.sfits) refl
