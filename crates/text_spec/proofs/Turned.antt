-- A size with its sign turned, as the machine computes it.
-- Assumes nothing.
use Prim.Native.Nat.{ℕ, ◌<◌, ◌^◌}
use native.Mathlib.Omega.{arith}
use mathlib.Core.Path.{◌≡◌, ap, subst⁻¹, ◌∙◌}
use lib.IntN.{pos, neg_ℤ, ◌-ℤ◌, +ℤ_idl}
use mir.Facts.{to_z_pos, to_z-of_z}
use mir.Syntax.{w64}
use mir.Val.{SFits, to_z, of_z}
use Rattle.numbers.proofs.Size.{Size, size_neg, fits_size}

module _ (n : ℕ) (h : n < 2 ^ 63) where
  turned_is : pos 0 -ℤ to_z w64 n ≡ neg_ℤ (pos n)
  turned_is = ap (λ z. pos 0 -ℤ z) (to_z_pos w64 h) ∙ +ℤ_idl (neg_ℤ (pos n))

  own_size : Size (pos n) n
  own_size = record { size = omega arith }

  pub turned_fits : SFits w64 (pos 0 -ℤ to_z w64 n)
  turned_fits = subst⁻¹ (SFits w64) turned_is (fits_size (size_neg own_size) h)

  pub turned-read : to_z w64 (of_z w64 (pos 0 -ℤ to_z w64 n)) ≡ neg_ℤ (pos n)
  turned-read = to_z-of_z {w = w64} turned_fits ∙ turned_is
