-- What a narrower field holds of a number of 64 bits: the number where it fits, else 0.
-- Assumes nothing.
use Prim.Native.Nat.{ℕ, ◌+◌, ◌^◌, ◌≤◌, ◌<◌}
use native.Mathlib.Nat.{lt_of_le_of_lt}
use native.Mathlib.Omega.{arith}
use mathlib.Core.Path.{◌≡◌, refl, sym, ◌∙◌}
use mathlib.Core.Bool.{Bool, true, false, cond, true≢false}
use borrow.Author.Tests.{le-ltb, ltb-false}
use lib.Dec.{ltb, lit<}
use lib.IntN.{ℤ, pos, negsuc, nat_abs}
use lib.Signed.{mag}
use mir.Syntax.{Width, w8, w16}
use mir.Val.{hbits, SFits}
use Rattle.std.specs.Prelude.{Result, Ok, Err}
use Rattle.std.specs.Result.{OkIff, result_unwrap_or}
use Rattle.std.specs.Int.{FitsUnsignedBits}
use Rattle.numbers.specs.Ranges.{outside_z}
use Rattle.numbers.proofs.Tests.{cond_no, or_false, or_no}
use Rattle.recipe_fields.specs.Fields.{bad_byte, bad_signed8, bad_signed16, byte_of, signed8_of, signed16_of}

-- a conversion that answers v where the test fails, and else a default
held_by : {A E : Type 0} (none v : A) (P : Type 0) (t : Bool) → (t ≡ false → P) → (P → t ≡ false) → (r : Result A E) → OkIff r P v → result_unwrap_or r none ≡ cond t none v
held_by none v P t f g (Ok x) h = h.1 ∙ sym (cond_no t none v (g h.0))
held_by none v P true f g (Err e) h = refl
held_by none v P false f g (Err e) h = absurd (h (f refl))

-- ---- a byte
pub byte_held : {E : Type 0} (z : ℤ) (r : Result ℕ E) → OkIff r (FitsUnsignedBits 8 z) (nat_abs z) → result_unwrap_or r 0 ≡ byte_of z
unfolding bad_byte byte_of
byte_held z = held_by 0 (nat_abs z) (FitsUnsignedBits 8 z) (outside_z (pos 0) (pos 255) z) (fits z) (holds z)
  where
    fits : (z : ℤ) → outside_z (pos 0) (pos 255) z ≡ false → FitsUnsignedBits 8 z
    fits (pos n) e = omega (arith, ltb-false 255 n (or_false (ltb n 0) (ltb 255 n) e).1)
    fits (negsuc n) e = absurd (true≢false e)

    holds : (z : ℤ) → FitsUnsignedBits 8 z → outside_z (pos 0) (pos 255) z ≡ false
    holds (pos n) h = or_no (ltb n 0) (ltb 255 n) (le-ltb n 0 (omega arith)) (le-ltb 255 n (omega arith))
    holds (negsuc n) h = absurd h

-- ---- signed bits of any width, of which k is the greatest number
module _ {E : Type 0} (w : Width) (k : ℕ) (less : k < 2 ^ hbits w) (most : 2 ^ hbits w ≤ k + 1) where
  signed_held : (z : ℤ) (r : Result ℤ E) → OkIff r (SFits w z) z → result_unwrap_or r (pos 0) ≡ cond (outside_z (negsuc k) (pos k) z) (pos 0) z
  signed_held z = held_by (pos 0) z (SFits w z) (outside_z (negsuc k) (pos k) z) (λ e. record { sfits = lt_of_le_of_lt (inside z e) less }) (λ f. outside z (small z f))
    where
      inside : (z : ℤ) → outside_z (negsuc k) (pos k) z ≡ false → mag z ≤ k
      inside (pos n) e = ltb-false k n e
      inside (negsuc n) e = ltb-false k n (or_false (ltb k n) false e).0

      small : (z : ℤ) → SFits w z → mag z ≤ k
      small z f = let h = f.sfits in omega arith

      outside : (z : ℤ) → mag z ≤ k → outside_z (negsuc k) (pos k) z ≡ false
      outside (pos n) h = le-ltb k n h
      outside (negsuc n) h = or_no (ltb k n) false (le-ltb k n h) refl

pub held8 : {E : Type 0} (z : ℤ) (r : Result ℤ E) → OkIff r (SFits w8 z) z → result_unwrap_or r (pos 0) ≡ signed8_of z
unfolding bad_signed8 signed8_of
held8 = signed_held w8 127 (lit< tt) (omega arith)

pub held16 : {E : Type 0} (z : ℤ) (r : Result ℤ E) → OkIff r (SFits w16 z) z → result_unwrap_or r (pos 0) ≡ signed16_of z
unfolding bad_signed16 signed16_of
held16 = signed_held w16 32767 (lit< tt) (omega arith)
