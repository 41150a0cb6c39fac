-- Levels by how far they are above a low one, as the machine computes it: a difference cast to an unsigned number, and back.
-- Two levels are apart by less than 2^32, so nothing leaves 64 bits, and a level itself fits 32.
-- Assumes nothing.
use mathlib.Core.Path.{◌≡◌, subst⁻¹, ◌∙◌}
use Prim.Native.Nat.{ℕ, ◌≤◌, ◌<◌, ◌^◌}
use native.Mathlib.Omega.{arith}
use lib.Dec.{T}
use lib.IntN.{ℤ, pos, nat_abs, ◌+ℤ◌, ◌-ℤ◌}
use lib.Signed.{non_neg, ◌≤ℤ◌, yes_non_neg}
use mir.Facts.{Fits-nat_abs, to_z_pos}
use mir.Syntax.{Width, w64}
use mir.Val.{to_z, of_z, SFits, Fits, hbits}
use mir.ValLaws.{to_z-of_z}
use Rattle.numbers.proofs.IntSum.{difference_above}
use Rattle.numbers.proofs.Size.{Size, size_add, size_neg, fits_at, fits_size}

-- what the machine reads back
abbrev read : ℤ → ℤ
read z = to_z w64 (of_z w64 z)

-- what a cast to an unsigned number asks
abbrev Casts : ℤ → Type 0
Casts z = T (non_neg z) × Fits w64 (nat_abs z)

sized : (z : ℤ) → nat_abs z ≤ 2147483647 → Size z 2147483647
sized z h = record { size = h }

read-level : (z : ℤ) → nat_abs z ≤ 2147483647 → read z ≡ z
read-level z h = to_z-of_z w64 z (fits_size (sized z h) (omega arith))

-- ---- a level at a width of at least 32 bits: it fits, and is what is read back
module _ (w : Width) (wide : 2147483647 < 2 ^ hbits w) (z : ℤ) {x : ℤ} (h : nat_abs z ≤ 2147483647) (e : x ≡ z) where
  pub level_fits : SFits w x
  level_fits = subst⁻¹ (SFits w) e (fits_at w (sized z h) wide)

  pub level-read : to_z w (of_z w x) ≡ z
  level-read = to_z-of_z w x level_fits ∙ e

module _ (low : ℤ) (h : nat_abs low ≤ 2147483647) where
  -- ---- how far high is above low
  module _ (high : ℤ) (k : nat_abs high ≤ 2147483647) where
    difference : read high -ℤ read low ≡ high -ℤ low
    difference = (λ i. read-level high k i -ℤ read-level low h i)

    difference_fits : SFits w64 (high -ℤ low)
    difference_fits = fits_size (size_add (sized high k) (size_neg (sized low h))) (omega arith)

    pub distance_fits : SFits w64 (read high -ℤ read low)
    distance_fits = subst⁻¹ (SFits w64) difference difference_fits

    pub distance_read : read (read high -ℤ read low) ≡ high -ℤ low
    distance_read = to_z-of_z w64 _ distance_fits ∙ difference

    pub distance_casts : low ≤ℤ high → Casts (read (read high -ℤ read low))
    distance_casts l = let n = yes_non_neg (difference_above l) in
        subst⁻¹ Casts distance_read (n, Fits-nat_abs {w = w64} tt difference_fits)

  -- ---- the level so far above low
  module _ (offset : ℕ) (b : offset ≤ 4294967294) where
    above : read low +ℤ to_z w64 offset ≡ low +ℤ pos offset
    above = (λ i. read-level low h i +ℤ to_z_pos w64 {n = offset} (omega arith) i)

    offset_sized : Size (pos offset) 4294967294
    offset_sized = record { size = b }

    pub above_fits : SFits w64 (read low +ℤ to_z w64 offset)
    above_fits = subst⁻¹ (SFits w64) above (fits_size (size_add (sized low h) offset_sized) (omega arith))

    pub above_read : read (read low +ℤ to_z w64 offset) ≡ low +ℤ pos offset
    above_read = to_z-of_z w64 _ above_fits ∙ above
