-- The changed origin of a convolution: its range is the caller's range, for odd and for even counts, and the machine computes it inside 64 bits.
-- Assumes nothing.
use Prim.Native.Nat.{ℕ, zero, suc, ◌+◌, ◌-◌, ◌/◌, ◌%◌, ◌^◌, ◌≤◌, ◌<◌}
use mathlib.Core.Path.{◌≡◌, refl, sym, ap, subst⁻¹, ◌∙◌}
use mathlib.Core.Bool.{Bool, true, false, cond}
use native.Mathlib.Omega.{arith}
use borrow.Author.Tests.{eqb-true, eqb-false, eq-eqb, ne_eqb}
use lib.Dec.{eqb}
use lib.IntN.{ℤ, pos, negsuc, neg_ℤ, ◌-ℤ◌, +ℤ_idl, +ℤ_idr}
use mir.Syntax.{w64}
use mir.Val.{to_z, of_z, SFits}
use mir.ValLaws.{to_z-of_z}
use Rattle.numbers.proofs.IntSum.{minus_pos}
use Rattle.numbers.proofs.Size.{Size, size_neg, fits_size}
use Rattle.numbers.proofs.Tests.{leb-ltb}
use Rattle.window_spec.specs.Origin.{bad_origin}
use Rattle.window_spec.proofs.Origins.{origin_none, origin_on, origin_back, accepted_on, accepted-back}
use Rattle.window_spec.specs.Window.{changed_origin, applied_origin}

-- ---- the range
-- j places back and k places on: refused alike where the counts agree
module _ (len j k : ℕ) (h : 0 < len) (f : len / 2 ≤ j → (len - 1) / 2 < k) (g : (len - 1) / 2 < k → len / 2 ≤ j) where
  back_on : bad_origin len (negsuc j) ≡ bad_origin len (pos k)
  back_on = origin_back len j h ∙ leb-ltb (len / 2) j ((len - 1) / 2) k f g ∙ sym (origin_on len k h)

shifted : (len : ℕ) (o : ℤ) → 0 < len → len % 2 ≡ 0 → bad_origin len (neg_ℤ o -ℤ pos 1) ≡ bad_origin len o
shifted len (pos zero) h m = back_on len 0 0 h (λ l. omega arith) (λ l. omega arith)
shifted len (pos (suc k)) h m = back_on len (suc (k + 0)) (suc k) h (λ l. omega arith) (λ l. omega arith)
shifted len (negsuc k) h m = ap (bad_origin len) (minus_pos (suc k) 1 (omega arith)) ∙ sym (back_on len k (suc k - 1) h (λ l. omega arith) (λ l. omega arith))

negated : (len : ℕ) (o : ℤ) → 0 < len → (len % 2 ≡ 0 → ⊥) → bad_origin len (neg_ℤ o) ≡ bad_origin len o
negated len (pos zero) h m = refl
negated len (pos (suc k)) h m = back_on len k (suc k) h (λ l. omega arith) (λ l. omega arith)
negated len (negsuc k) h m = sym (back_on len k (suc k) h (λ l. omega arith) (λ l. omega arith))

-- the change, by the count
pub changed-even : (len : ℕ) (o : ℤ) → len % 2 ≡ 0 → changed_origin len o ≡ neg_ℤ o -ℤ pos 1
changed-even len o m = ap (λ t. neg_ℤ o -ℤ pos (cond t 1 0)) (eq-eqb (len % 2) 0 m)

pub changed-odd : (len : ℕ) (o : ℤ) → (len % 2 ≡ 0 → ⊥) → changed_origin len o ≡ neg_ℤ o
changed-odd len o m = ap (λ t. neg_ℤ o -ℤ pos (cond t 1 0)) (ne_eqb (len % 2) 0 m) ∙ +ℤ_idr (neg_ℤ o)

pub changed_range : (len : ℕ) (o : ℤ) → bad_origin len (changed_origin len o) ≡ bad_origin len o
changed_range zero o = origin_none (changed_origin 0 o) ∙ sym (origin_none o)
changed_range (suc n) o = go (eqb (suc n % 2) 0) refl
  where
    go : (t : Bool) → eqb (suc n % 2) 0 ≡ t → bad_origin (suc n) (changed_origin (suc n) o) ≡ bad_origin (suc n) o
    go true q = let m = eqb-true (suc n % 2) 0 q in ap (bad_origin (suc n)) (changed-even (suc n) o m) ∙ shifted (suc n) o (omega arith) m
    go false q = let m = eqb-false (suc n % 2) 0 q in ap (bad_origin (suc n)) (changed-odd (suc n) o m) ∙ negated (suc n) o (omega arith) m

pub applied_range : (convolution : Bool) (len : ℕ) (o : ℤ) → bad_origin len (applied_origin convolution len o) ≡ bad_origin len o
applied_range true len o = changed_range len o
applied_range false len o = refl

-- ---- inside 64 bits
-- what the machine reads back
abbrev read : ℤ → ℤ
read z = to_z w64 (of_z w64 z)

origin_sized : (len : ℕ) (o : ℤ) → bad_origin len o ≡ false → Size o (len / 2)
origin_sized len (pos k) e = record { size = omega (arith, accepted_on len k e) }
origin_sized len (negsuc k) e = record { size = omega (arith, accepted-back len k e) }

module _ (len : ℕ) (o : ℤ) (f : SFits w64 o) (b : len < 2 ^ 64) (e : bad_origin len o ≡ false) where
  half : len / 2 < 2 ^ 63
  half = omega arith

  negation : pos 0 -ℤ read o ≡ neg_ℤ o
  negation = ap (λ (y : ℤ). pos 0 -ℤ y) (to_z-of_z w64 o f) ∙ +ℤ_idl (neg_ℤ o)

  pub negation_fits : SFits w64 (pos 0 -ℤ read o)
  negation_fits = subst⁻¹ (SFits w64) negation (fits_size (size_neg (origin_sized len o e)) half)

  negation_read : read (pos 0 -ℤ read o) ≡ neg_ℤ o
  negation_read = to_z-of_z w64 _ negation_fits ∙ negation

  pub odd-read : (len % 2 ≡ 0 → ⊥) → read (pos 0 -ℤ read o) ≡ changed_origin len o
  odd-read m = negation_read ∙ sym (changed-odd len o m)

  module _ (m : len % 2 ≡ 0) where
    shift : read (pos 0 -ℤ read o) -ℤ pos 1 ≡ changed_origin len o
    shift = ap (λ (y : ℤ). y -ℤ pos 1) negation_read ∙ sym (changed-even len o m)

    pub shift_fits : SFits w64 (read (pos 0 -ℤ read o) -ℤ pos 1)
    shift_fits = subst⁻¹ (SFits w64) shift (fits_size (origin_sized len (changed_origin len o) (changed_range len o ∙ e)) half)

    pub even-read : read (read (pos 0 -ℤ read o) -ℤ pos 1) ≡ changed_origin len o
    even-read = to_z-of_z w64 _ shift_fits ∙ shift
