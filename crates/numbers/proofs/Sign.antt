-- A signed number by its sign and size, as the machine computes it: of one below 0 its size is −(z + 1), of any other it is z.
-- Assumes nothing.
use Prim.Native.Nat.{ℕ, zero, suc, ◌≤◌, zero-le}
use native.Mathlib.Nat.{not-suc-le-zero}
use native.Mathlib.Omega.{arith}
use mathlib.Core.Path.{◌≡◌, refl, ap, ◌∙◌, subst⁻¹}
use mathlib.Core.Bool.{true, false, true≢false}
use borrow.Author.Tests.{ltb-true}
use lib.Dec.{T}
use lib.IntN.{ℤ, pos, negsuc, suc_ℤ, neg_ℤ, nat_abs, ◌+ℤ◌, ◌-ℤ◌, +ℤ_one, +ℤ_idl}
use lib.Signed.{lt_z, mag, non_neg}
use mir.Syntax.{w64}
use mir.Val.{to_z, of_z, SFits, Fits}
use mir.ValLaws.{to_z-of_z, sfits_le}
use mir.Facts.{Fits-nat_abs}

-- what the machine reads back
abbrev read : ℤ → ℤ
read z = to_z w64 (of_z w64 z)

-- what a cast to an unsigned number asks
abbrev Casts : ℤ → Type 0
Casts z = T (non_neg z) × Fits w64 (nat_abs z)

sign_below : (z : ℤ) → lt_z z (pos 0) ≡ true → z ≡ negsuc (mag z)
sign_below (pos n) e = absurd (not-suc-le-zero (ltb-true n 0 e))
sign_below (negsuc n) e = refl

sign_on : (z : ℤ) → lt_z z (pos 0) ≡ false → z ≡ pos (mag z)
sign_on (pos n) e = refl
sign_on (negsuc n) e = absurd (true≢false e)

size_next : (n : ℕ) → mag (suc_ℤ (negsuc n)) ≤ n
size_next zero = zero-le
size_next (suc n) = omega arith

turned-next : (n : ℕ) → neg_ℤ (suc_ℤ (negsuc n)) ≡ pos n
turned-next zero = refl
turned-next (suc n) = refl

module _ (z : ℤ) (f : SFits w64 z) where
  size_fits : SFits w64 (pos (mag z))
  size_fits = record { sfits = f.sfits }

  size_casts : Casts (pos (mag z))
  size_casts = (tt, Fits-nat_abs {w = w64} {z = pos (mag z)} tt size_fits)

  module _ (t : lt_z (read z) (pos 0) ≡ true) where
    pub below_is : z ≡ negsuc (mag z)
    below_is = sign_below z (rw (to_z-of_z w64 z f) at t)

    next_is : z +ℤ pos 1 ≡ suc_ℤ (negsuc (mag z))
    next_is = +ℤ_one z ∙ ap suc_ℤ below_is

    next_fits : SFits w64 (z +ℤ pos 1)
    next_fits = sfits_le (subst⁻¹ (λ (y : ℤ). mag y ≤ mag z) next_is (size_next (mag z))) f

    pub below-next_fits : SFits w64 (read z +ℤ pos 1)
    below-next_fits = subst⁻¹ (λ (y : ℤ). SFits w64 (y +ℤ pos 1)) (to_z-of_z w64 z f) next_fits

    turned : pos 0 -ℤ read (read z +ℤ pos 1) ≡ pos (mag z)
    turned =
        ap (λ (y : ℤ). pos 0 -ℤ read (y +ℤ pos 1)) (to_z-of_z w64 z f)
        ∙ ap (λ (y : ℤ). pos 0 -ℤ y) (to_z-of_z w64 (z +ℤ pos 1) next_fits ∙ next_is)
        ∙ +ℤ_idl (neg_ℤ (suc_ℤ (negsuc (mag z))))
        ∙ turned-next (mag z)

    pub below-turned_fits : SFits w64 (pos 0 -ℤ read (read z +ℤ pos 1))
    below-turned_fits = subst⁻¹ (SFits w64) turned size_fits

    pub below-turned : read (pos 0 -ℤ read (read z +ℤ pos 1)) ≡ pos (mag z)
    below-turned = to_z-of_z w64 _ below-turned_fits ∙ turned

    pub below_casts : Casts (read (pos 0 -ℤ read (read z +ℤ pos 1)))
    below_casts = subst⁻¹ Casts below-turned size_casts

  module _ (t : lt_z (read z) (pos 0) ≡ false) where
    pub on_is : z ≡ pos (mag z)
    on_is = sign_on z (rw (to_z-of_z w64 z f) at t)

    pub on_read : read z ≡ pos (mag z)
    on_read = to_z-of_z w64 z f ∙ on_is

    pub on_casts : Casts (read z)
    on_casts = subst⁻¹ Casts on_read size_casts
