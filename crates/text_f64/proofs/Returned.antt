-- Reading what was written gives the float back.
-- Assumes nothing.
use Prim.Native.Nat.{◌^◌, ◌<◌}
use native.Mathlib.Omega.{arith}
use mathlib.Core.Path.{◌≡◌, refl, ap, ◌∙◌}
use mathlib.Core.Bool.{Bool, true, false, cond}
use lib.Dec.{T}
use lib.Ieee.{Float, binary64, fits, is_nan, to_bits}
use lib.Ieee.Bits.{of_bits-to_bits, to_bits-lt}
use lib.ListN.{length}
use Rattle.std.specs.Prelude.{Some}
use Rattle.text_spec.specs.Writing.{digits_of}
use Rattle.text_spec.proofs.Digits.{digits_length}
use Rattle.text_spec.proofs.Returned.{numeral_back}
use Rattle.text_f64.specs.Bits.{nan_text, pattern_of, float_of, float_text}
use Rattle.text_f64.proofs.Patterns.{nan_is}

module _ (x : Float) (f : T (fits binary64 x)) where
  below : to_bits binary64 x < 2 ^ 64
  below = to_bits-lt binary64 x f

  sixteen : length (digits_of 16 16 (to_bits binary64 x)) ≡ 16
  sixteen = digits_length 16 16 (to_bits binary64 x)

  digits_back : float_of (digits_of 16 16 (to_bits binary64 x)) ≡ Some x
  digits_back =
      rw (sixteen)
      (ap pattern_of (numeral_back 16 (omega arith) (omega arith) 16 (to_bits binary64 x) (omega arith) below below)
      ∙ ap Some (of_bits-to_bits binary64 x f))

  pub float_back : float_of (float_text x) ≡ Some x
  float_back = go (is_nan x) refl
    where
      go : (t : Bool) → is_nan x ≡ t → float_of (cond t nan_text (digits_of 16 16 (to_bits binary64 x))) ≡ Some x
      go true e = rw (nan_is x e) refl
      go false e = digits_back
