-- Reading what was written gives the number back.
--   ReadsBack   of every number that 64 bits hold
use Rattle.std.specs.Prelude.{◌≡◌, ℤ, Some}
use Rattle.std.specs.Int.{w64}
use Rattle.std.proofs.Common.{SFits}
use Rattle.text_spec.specs.Reading.{signed_of}
use Rattle.text_spec.specs.Writing.{signed_text}

pub record ReadsBack : Type 0 where
  pub signed_back : (z : ℤ) → SFits w64 z → signed_of (signed_text z) ≡ Some z
