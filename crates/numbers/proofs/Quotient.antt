-- The quotient cut toward zero, the kit's quot_z, by a number above 0: its size is the quotient of the sizes, its sign is the dividend's, and what it leaves
-- is below the divisor in size. It fits where the dividend does.
-- Assumes nothing.
use mathlib.Core.Path.{◌≡◌, refl, sym, ap, ◌∙◌}
use Prim.Native.Nat.{ℕ, zero, suc, ◌*◌, ◌/◌, ◌%◌, ◌≤◌, ◌<◌, ◌^◌, zero-le}
use native.Mathlib.Nat.{le_of_suc-le-suc, not-suc-le-zero, div-le_self, div-le_of_le-mul, div-add-mod', mod-lt}
use native.Mathlib.Omega.{arith}
use lib.IntN.{ℤ, pos, negsuc, neg_ℤ, nat_abs, ◌+ℤ◌, ◌*ℤ◌, neg_ℤ-+ℤ}
use lib.Signed.{mag, quot_z, rem_z, ◌≤ℤ◌, le_z_yes}
use mir.Syntax.{Width}
use mir.Val.{SFits, to_z, of_z, hbits}
use mir.ValLaws.{sfits_le, to_z-of_z, to_z_pos}
use Rattle.numbers.proofs.IntOrder.{pos_≤, ≤-pos}
use Rattle.numbers.proofs.IntProduct.{negℤ_*ℤ}
use Rattle.numbers.proofs.Size.{Size, nat_abs_neg}

pub quot_size : (z : ℤ) (n : ℕ) → nat_abs (quot_z z (pos n)) ≡ nat_abs z / n
quot_size (pos a) n = refl
quot_size (negsuc a) n = nat_abs_neg (pos (suc a / n))

-- of n times p by n: at most p
pub size_quot : {z : ℤ} {p : ℕ} (n : ℕ) → Size z (n * p) → Size (quot_z z (pos n)) p
size_quot {z} {p} n h = record { size = omega (arith, quot_size z n, div-le_of_le-mul n h.size) }

pub quot_rem : (z : ℤ) (n : ℕ) → quot_z z (pos n) *ℤ pos n +ℤ rem_z z (pos n) ≡ z
quot_rem (pos a) n = ap pos (div-add-mod' a n)
quot_rem (negsuc a) n =
    let q = suc a / n in
    ap (λ (x : ℤ). x +ℤ neg_ℤ (pos (suc a % n))) (negℤ_*ℤ (pos q) (pos n))
    ∙ sym (neg_ℤ-+ℤ (pos (q * n)) (pos (suc a % n)))
    ∙ ap (λ (m : ℕ). neg_ℤ (pos m)) (div-add-mod' (suc a) n)

pub rem_size : (z : ℤ) (n : ℕ) → 0 < n → nat_abs (rem_z z (pos n)) < n
rem_size (pos a) n h = mod-lt a h
rem_size (negsuc a) n h = rw (nat_abs_neg (pos (suc a % n))) (mod-lt (suc a) h)

-- ---- the sign
pub quot_above : (z : ℤ) (n : ℕ) → pos 0 ≤ℤ z → pos 0 ≤ℤ quot_z z (pos n)
quot_above (pos a) n h = pos_≤ zero-le
quot_above (negsuc a) n h = absurd h.le

neg-below : (m : ℕ) → neg_ℤ (pos m) ≤ℤ pos 0
neg-below zero = pos_≤ zero-le
neg-below (suc m) = le_z_yes tt

pub quot_below : (z : ℤ) (n : ℕ) → z ≤ℤ pos 0 → quot_z z (pos n) ≤ℤ pos 0
quot_below (pos zero) n h = pos_≤ (div-le_self 0 n)
quot_below (pos (suc a)) n h = absurd (not-suc-le-zero (≤-pos h))
quot_below (negsuc a) n h = neg-below (suc a / n)

-- ---- on the machine
mag_neg : (r : ℕ) {a : ℕ} → r ≤ suc a → mag (neg_ℤ (pos r)) ≤ a
mag_neg zero h = zero-le
mag_neg (suc r) h = le_of_suc-le-suc h

mag_quot : (z : ℤ) (n : ℕ) → mag (quot_z z (pos n)) ≤ mag z
mag_quot (pos a) n = div-le_self a n
mag_quot (negsuc a) n = mag_neg (suc a / n) (div-le_self (suc a) n)

pub quot_fits : (w : Width) (z : ℤ) (n : ℕ) → SFits w z → SFits w (quot_z z (pos n))
quot_fits w z n h = sfits_le (mag_quot z n) h

-- by an unsigned number that was cast, of a number that was read: what the division asks, and what it gives
module _ (w : Width) (z : ℤ) (h : SFits w z) (n : ℕ) (b : n < 2 ^ hbits w) where
  pub quot_asked : SFits w (quot_z (to_z w (of_z w z)) (to_z w n))
  quot_asked = rw (to_z_pos w n b, to_z-of_z w z h) (quot_fits w z n h)

  pub quot_given : to_z w (of_z w (quot_z (to_z w (of_z w z)) (to_z w n))) ≡ quot_z z (pos n)
  quot_given = rw (to_z_pos w n b, to_z-of_z w z h) (to_z-of_z w (quot_z z (pos n)) (quot_fits w z n h))
