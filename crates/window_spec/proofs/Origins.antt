-- Condition 7 by the origin's sign, the pads as sums of natural numbers, and that no pad of an accepted origin is negative.
use Prim.Native.Nat.{ℕ, zero, suc, ◌+◌, ◌-◌, ◌/◌, ◌≤◌, ◌<◌, zero-le}
use mathlib.Core.Path.{◌≡◌, refl, sym, ap, ◌∙◌}
use mathlib.Core.Bool.{Bool, true, false, ◌||◌, or-true, or-false, true≢false}
use native.Mathlib.Nat.{le_refl}
use native.Mathlib.Omega.{arith}
use borrow.Author.Tests.{le-ltb, ltb-false, le-leb, leb-false}
use lib.Dec.{ltb, leb}
use lib.IntN.{ℤ, pos, negsuc, neg_ℤ, nat_abs, ◌+ℤ◌, ◌-ℤ◌, +ℤ_assoc, +ℤ_comm, +ℤ_idl, +ℤ_invr}
use lib.Signed.{lt_z, shr_z}
use Rattle.numbers.proofs.IntSum.{minus_pos}
use Rattle.window_spec.specs.declared.Origin.TheVariants.{Pads}
use Rattle.window_spec.specs.Origin.{bad_origin, origin_pads}

-- ---- condition 7 by the sign

not_below : (k m : ℕ) → lt_z (pos k) (neg_ℤ (pos m)) ≡ false
not_below k zero = le-ltb k 0 zero-le
not_below k (suc m) = refl

below : (k m : ℕ) → lt_z (negsuc k) (neg_ℤ (pos m)) ≡ leb m k
below k zero = sym (le-leb 0 k zero-le)
below k (suc m) = refl

-- a window of no cells has no origin
pub origin_none : (o : ℤ) → bad_origin 0 o ≡ true
unfolding bad_origin
origin_none (pos k) = search or-true
origin_none (negsuc k) = refl

pub origin_on : (len k : ℕ) → 0 < len → bad_origin len (pos k) ≡ ltb ((len - 1) / 2) k
unfolding bad_origin
origin_on len k h =
    ap (λ (t : Bool). t || lt_z (shr_z (pos len -ℤ pos 1) 2) (pos k)) (not_below k (len / 2))
    ∙ ap (λ (z : ℤ). lt_z (shr_z z 2) (pos k)) (minus_pos len 1 h)

pub origin_back : (len k : ℕ) → 0 < len → bad_origin len (negsuc k) ≡ leb (len / 2) k
unfolding bad_origin
origin_back len k h =
    ap (λ (z : ℤ). lt_z (negsuc k) (neg_ℤ (pos (len / 2))) || lt_z (shr_z z 2) (negsuc k)) (minus_pos len 1 h)
    ∙ or-false (lt_z (negsuc k) (neg_ℤ (pos (len / 2))))
    ∙ below k (len / 2)

-- ---- what an accepted origin tells

pub accepted_some : (len : ℕ) (o : ℤ) → bad_origin len o ≡ false → 0 < len
accepted_some zero o e = absurd (true≢false (sym (origin_none o) ∙ e))
accepted_some (suc n) o e = omega arith

pub accepted_on : (len k : ℕ) → bad_origin len (pos k) ≡ false → k ≤ (len - 1) / 2
accepted_on len k e = ltb-false ((len - 1) / 2) k (sym (origin_on len k (accepted_some len (pos k) e)) ∙ e)

pub accepted-back : (len k : ℕ) → bad_origin len (negsuc k) ≡ false → k < len / 2
accepted-back len k e = leb-false (len / 2) k (sym (origin_back len k (accepted_some len (negsuc k) e)) ∙ e)

-- ---- the pads as sums of natural numbers

module _ (len left right k : ℕ) where
  pub pads_on : bad_origin len (pos k) ≡ false → k ≤ right → origin_pads len left right (pos k) ≡ Pads (left + k) (right - k)
  pads_on e h = rw (e, minus_pos right k h) refl

  pub pads_back : bad_origin len (negsuc k) ≡ false → k < left → origin_pads len left right (negsuc k) ≡ Pads (left - k - 1) (right + k + 1)
  pads_back e h = rw (e, minus_pos left (suc k) h) (ap (λ (l : ℕ). Pads l (right + suc k)) l_is ∙ ap (λ (r : ℕ). Pads (left - k - 1) r) r_is)
    where
      l_is : left - suc k ≡ left - k - 1
      l_is = omega arith

      r_is : right + suc k ≡ right + k + 1
      r_is = omega arith

-- ---- no pad of an accepted origin is negative

pub left-accepted : (len left : ℕ) (o : ℤ) → len / 2 ≤ left → bad_origin len o ≡ false → pos (nat_abs (pos left +ℤ o)) ≡ pos left +ℤ o
left-accepted len left (pos k) h e = refl
left-accepted len left (negsuc k) h e = let b = accepted-back len k e in rw (minus_pos left (suc k) (omega arith)) refl

pub right-accepted : (len right : ℕ) (o : ℤ) → (len - 1) / 2 ≤ right → bad_origin len o ≡ false → pos (nat_abs (pos right -ℤ o)) ≡ pos right -ℤ o
right-accepted len right (pos k) h e = let b = accepted_on len k e in rw (minus_pos right k (omega arith)) refl
right-accepted len right (negsuc k) h e = refl

-- the two sums of a window along one axis, and those of a grid kernel
pub record SignedPads (left right : ℕ) (o : ℤ) : Type 0 where
  pub left_pad_lem : pos (nat_abs (pos left +ℤ o)) ≡ pos left +ℤ o
  pub right_pad_lem : pos (nat_abs (pos right -ℤ o)) ≡ pos right -ℤ o

-- together they are the pads of origin 0
pub pads_sum : (left right : ℕ) (o : ℤ) → SignedPads left right o → nat_abs (pos left +ℤ o) + nat_abs (pos right -ℤ o) ≡ left + right
pads_sum left right o s = ap nat_abs ((λ j. s.left_pad_lem j +ℤ s.right_pad_lem j) ∙ regroup (pos left) o (pos right))
  where
    regroup : (l o r : ℤ) → (l +ℤ o) +ℤ (r -ℤ o) ≡ l +ℤ r
    regroup l o r =
        +ℤ_assoc l o (r -ℤ o)
        ∙ ap (λ (x : ℤ). l +ℤ x) (ap (λ (x : ℤ). o +ℤ x) (+ℤ_comm r (neg_ℤ o)) ∙ sym (+ℤ_assoc o (neg_ℤ o) r) ∙ ap (λ (x : ℤ). x +ℤ r) (+ℤ_invr o) ∙ +ℤ_idl r)

pub axis-accepted : (len : ℕ) (o : ℤ) → bad_origin len o ≡ false → SignedPads (len / 2) (len - len / 2 - 1) o
axis-accepted len o e = record { left_pad_lem = left-accepted len (len / 2) o (le_refl (len / 2)) e; right_pad_lem = right-accepted len (len - len / 2 - 1) o (omega arith) e }

pub kernel_accepted : (side : ℕ) (o : ℤ) → bad_origin side o ≡ false → SignedPads (side / 2) (side / 2) o
kernel_accepted side o e = record { left_pad_lem = left-accepted side (side / 2) o (le_refl (side / 2)) e; right_pad_lem = right-accepted side (side / 2) o (omega arith) e }
