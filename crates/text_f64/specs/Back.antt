-- Reading what was written gives the float back.
--   ReadsBackF64   of every float that 64 bits hold, a NaN as a NaN
use Rattle.std.specs.Prelude.{◌≡◌, T, Float, Some}
use Rattle.std.specs.Float.{binary64}
use Rattle.std.specs.Float.Ieee.{fits}
use Rattle.text_f64.specs.Bits.{float_of, float_text}

pub record ReadsBackF64 : Type 0 where
  pub float_back : (x : Float) → T (fits binary64 x) → float_of (float_text x) ≡ Some x
