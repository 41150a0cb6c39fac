-- NaNs as values, as patterns and as text.
-- Assumes nothing.
use Prim.Native.Nat.{ℕ}
use mathlib.Core.Path.{◌≡◌, refl, sym, ◌∙◌}
use mathlib.Core.Bool.{true, true≢false}
use lib.Ieee.{Float, nan, inf, fin, binary64, is_nan, nan_bits, of_bits}
use lib.Ieee.Bits.{nan_bits_is}

-- the bits of f64::NAN
pub quiet_nan : of_bits binary64 9221120237041090560 ≡ nan
unfolding of_bits
quiet_nan = refl

pub nan_is : (x : Float) → is_nan x ≡ true → x ≡ nan
unfolding is_nan
nan_is nan e = refl
nan_is (inf s) e = absurd (true≢false (sym e))
nan_is (fin s m k) e = absurd (true≢false (sym e))

pub nan_pattern : (n : ℕ) → nan_bits binary64 n ≡ true → of_bits binary64 n ≡ nan
nan_pattern n e = nan_is (of_bits binary64 n) (sym (nan_bits_is binary64 n) ∙ e)
