-- Reading the digits of a token one after the other, in any base.
-- Assumes nothing.
use Prim.Native.Nat.{ℕ, ◌+◌, ◌-◌, ◌*◌, ◌^◌, ◌≤◌, ◌<◌}
use native.Mathlib.Nat.{le_refl, le_trans, le-mul_of_pos_right}
use native.Mathlib.Numerals.{add-one}
use native.Mathlib.Omega.{arith}
use mathlib.Core.Path.{◌≡◌, refl, sym, ap, ◌∙◌}
use mathlib.Core.Bool.{Bool, true, false, ◌||◌, cond}
use mathlib.Core.List.{List, [], ◌∷◌}
use borrow.Author.Tests.{le-leb, lt-leb, ltb-true}
use lib.Dec.{leb, ltb}
use lib.ListN.{length, get_or, drop}
use lib.Seq.{drop-cons, drop-length}
use Rattle.std.specs.Prelude.{Option, Some, None}
use Rattle.numbers.specs.Lists.{any_of}
use Rattle.text_spec.specs.Reading.{digit_of, no_digit, value_of, numeral_from}

-- a byte that is no digit counts as 16
pub digit_most : (x : ℕ) → digit_of x ≤ 16
digit_most x = first (ltb x 48)
  where
    fourth : (t : Bool) → ltb x 103 ≡ t → cond t (x - 87) 16 ≤ 16
    fourth true e = omega (arith, ltb-true x 103 e)
    fourth false e = omega arith

    third : (t : Bool) → cond t 16 (cond (ltb x 103) (x - 87) 16) ≤ 16
    third true = omega arith
    third false = fourth (ltb x 103) refl

    second : (t : Bool) → ltb x 58 ≡ t → cond t (x - 48) (cond (ltb x 97) 16 (cond (ltb x 103) (x - 87) 16)) ≤ 16
    second true e = omega (arith, ltb-true x 58 e)
    second false e = third (ltb x 97)

    first : (t : Bool) → cond t 16 (cond (ltb x 58) (x - 48) (cond (ltb x 97) 16 (cond (ltb x 103) (x - 87) 16))) ≤ 16
    first true = omega arith
    first false = second (ltb x 58) refl

value_grows : (b n : ℕ) (t : List ℕ) → 0 < b → n ≤ value_of b n t
value_grows b n [] h = le_refl n
value_grows b n (x ∷ t) h = le_trans (omega (arith, le-mul_of_pos_right n h)) (value_grows b (n * b + digit_of x) t h)

or_right : {A : Type 0} (s t : Bool) (x y : A) → t ≡ true → cond (s || t) x y ≡ x
or_right true t x y e = refl
or_right false t x y e = rw e refl

from_odd : (b n x : ℕ) (t : List ℕ) → no_digit b x ≡ true → numeral_from b n (x ∷ t) ≡ None
unfolding numeral_from
from_odd b n x t e = rw e refl

from_next : (b n x : ℕ) (t : List ℕ) → no_digit b x ≡ false → numeral_from b n (x ∷ t) ≡ numeral_from b (n * b + digit_of x) t
unfolding numeral_from
from_next b n x t e = rw e refl

from_beyond : (b n : ℕ) (t : List ℕ) → 0 < b → 2 ^ 64 ≤ n → numeral_from b n t ≡ None
unfolding numeral_from
from_beyond b n t h l =
    or_right (any_of (no_digit b) t) (leb (2 ^ 64) (value_of b n t)) None (Some (value_of b n t))
    (le-leb (2 ^ 64) (value_of b n t) (le_trans l (value_grows b n t h)))

pub from_end_lem : (b n i : ℕ) (s : List ℕ) → i ≡ length s → n < 2 ^ 64 → numeral_from b n (drop i s) ≡ Some n
unfolding numeral_from
from_end_lem b n i s e l = rw (e, drop-length s) (rw (lt-leb (2 ^ 64) n l) refl)

-- the byte at i, of which d is the digit
module _ (b n i d : ℕ) (s : List ℕ) (u : Option ℕ) (l : i < length s) (p : d ≡ digit_of (get_or s i 0)) (e : u ≡ numeral_from b n (drop i s)) where
  at_byte : u ≡ numeral_from b n (get_or s i 0 ∷ drop (i + 1) s)
  at_byte = e ∙ rw (add-one, drop-cons s i 0 l) refl

  pub byte_odd : b ≤ d → None ≡ u
  byte_odd h = sym (at_byte ∙ from_odd b n (get_or s i 0) (drop (i + 1) s) (le-leb b (digit_of (get_or s i 0)) (omega (arith, p))))

  pub byte_next : d < b → u ≡ numeral_from b (n * b + d) (drop (i + 1) s)
  byte_next h =
      at_byte
      ∙ from_next b n (get_or s i 0) (drop (i + 1) s) (lt-leb b (digit_of (get_or s i 0)) (omega (arith, p)))
      ∙ ap (λ k. numeral_from b (n * b + k) (drop (i + 1) s)) (sym p)

  pub byte_beyond : d < b → (n * b + d < 2 ^ 64 → ⊥) → None ≡ u
  byte_beyond h f = sym (byte_next h ∙ from_beyond b (n * b + d) (drop (i + 1) s) (omega arith) (omega arith))
