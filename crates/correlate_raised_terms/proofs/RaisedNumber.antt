-- One number, raised, on the machine: the sum fits, is not below 0, and goes through 32 bits without loss.
-- Assumes nothing.
use Prim.Native.Nat.{ℕ, ◌+◌, ◌^◌, ◌≤◌, ◌<◌}
use mathlib.Core.List.{List}
use mathlib.Core.Path.{◌≡◌, refl, sym, ap, subst, ◌∙◌}
use native.Mathlib.Omega.{arith}
use lib.Dec.{T}
use lib.IntN.{ℤ, pos, negsuc, nat_abs, ◌+ℤ◌, +ℤ_idl, +ℤ-neg_ℤ_cancel}
use lib.ListN.{get_or}
use lib.Signed.{non_neg}
use mir.Syntax.{w32, w64}
use mir.Val.{Fits, SFits}
use mir.ValLaws.{to_z-of_z}
use Rattle.numbers.specs.Lists.{Every}
use Rattle.numbers.proofs.Any.{every_get_d}
use Rattle.numbers.proofs.Size.{Size, size_add, size_neg, fits_size}
use Rattle.correlate_raised_terms.specs.Narrow.{Raised}
use Rattle.correlate_spec.proofs.Computed.{read, Computed, size_pos, computed, computed_level, computed_read}

-- a member of a list that may be raised; past the end stands 0
pub raised_at : {by most : ℕ} (l : List ℤ) → Every (Raised by most) l → by ≤ most → (k : ℕ) → Raised by most (get_or l k (pos 0))
raised_at {by} {most} l h b k = every_get_d (Raised by most) l (pos 0) (record { to = by; is = +ℤ_idl (pos by); small = b }) h k

-- a number that is below 0 when raised, or above the most, is none that may be raised
pub below_none : {by most n : ℕ} {x : ℤ} → x +ℤ pos by ≡ negsuc n → Raised by most x → ⊥
below_none {n = n} e r = let z : negsuc n ≡ pos r.to = (sym e) ∙ r.is in let w : ◌≡◌ {A = ℕ} 0 1 = cc in omega arith

pub above_most : {by most n : ℕ} {x : ℤ} → x +ℤ pos by ≡ pos n → most < n → Raised by most x → ⊥
above_most {n = n} e b r = let z : n ≡ r.to = ap nat_abs (sym e ∙ r.is) in omega (arith, r.small)

-- ---- x, raised by by, as it was computed
module _ {by most : ℕ} {x : ℤ} (low : by < 2 ^ 32) (fits : most < 2 ^ 32) (R : Raised by most x) where
  size : Size x (most + by)
  size = subst (λ (z : ℤ). Size z (most + by)) (+ℤ-neg_ℤ_cancel x (pos by)) (size_add (subst (λ (z : ℤ). Size z most) (sym R.is) (record { size = R.small })) (size_neg (size_pos by)))

  held : SFits w64 x
  held = fits_size size (omega arith)

  pub raised_computed : Computed (read x +ℤ read (pos by)) (x +ℤ pos by)
  raised_computed =
      computed ◌+ℤ◌ (record { fits = held; is = refl }) (computed_level (size_pos by) (omega arith)) (subst (λ (z : ℤ). Size z most) (sym R.is) (record { size = R.small })) (omega arith)

  -- whichever number is added instead, the sum fits
  pub plus_fits : (n : ℕ) → n < 2 ^ 32 → SFits w64 (read x +ℤ pos n)
  plus_fits n l = fits_size (size_add (subst (λ (z : ℤ). Size z (most + by)) (sym (to_z-of_z w64 x held)) size) (size_pos n)) (omega arith)

  raised_read : read (read x +ℤ read (pos by)) ≡ pos R.to
  raised_read = computed_read raised_computed ∙ R.is

  pub raised_narrow : T (non_neg (read (read x +ℤ read (pos by)))) × Fits w32 (nat_abs (read (read x +ℤ read (pos by))))
  raised_narrow = subst (λ (z : ℤ). T (non_neg z) × Fits w32 (nat_abs z)) (sym raised_read) (tt, record { fits = omega (arith, R.small) })

  pub raised_wide : Fits w64 (nat_abs (read (read x +ℤ read (pos by))))
  raised_wide = subst (λ (z : ℤ). Fits w64 (nat_abs z)) (sym raised_read) (record { fits = omega (arith, R.small) })

  pub raised_is : pos (nat_abs (read (read x +ℤ read (pos by)))) ≡ x +ℤ pos by
  raised_is = ap (λ (z : ℤ). pos (nat_abs z)) raised_read ∙ sym R.is

  pub raised_small : nat_abs (read (read x +ℤ read (pos by))) ≤ most
  raised_small = subst (λ (z : ℤ). nat_abs z ≤ most) (sym raised_read) R.small
