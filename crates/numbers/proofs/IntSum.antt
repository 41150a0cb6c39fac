-- Sums of whole numbers and the order: a summand on both sides changes nothing. Differences of natural numbers, by their sign.
-- Assumes nothing.
use mathlib.Core.Path.{◌≡◌, refl, sym, ap, subst, subst₂, ◌∙◌}
use mathlib.Core.List.{List, [], ◌∷◌, ◌++◌}
use Prim.Native.Nat.{ℕ, zero, suc, ◌-◌, ◌≤◌, ◌<◌, zero-le, suc-le-suc}
use native.Mathlib.Nat.{le_of_suc-le-suc, not-suc-le-zero}
use native.Mathlib.Omega.{arith}
use borrow.Author.Tests.{le-ltb, lt-ltb}
use lib.Dec.{T, leb→le, le→leb}
use lib.IntN.{ℤ, pos, negsuc, suc_ℤ, pred_ℤ, neg_ℤ, nat_abs, ◌+ℤ◌, ◌-ℤ◌, +ℤ_idr, +ℤ_idl, +ℤ-suc_ℤ, +ℤ-pred_ℤ, +ℤ_assoc, +ℤ_comm, +ℤ_invr, +ℤ-neg_ℤ_cancel, -ℤ-+ℤ_cancel}
use lib.Signed.{le_z, ◌≤ℤ◌, le_z_yes, yes_non_neg, pos-nat_abs}
use Rattle.numbers.specs.Sums.{sum_of}
use Rattle.numbers.proofs.IntOrder.{≤ℤ-trans}

-- ---- one more, one less
suc_mono : (a b : ℤ) → T (le_z a b) → T (le_z (suc_ℤ a) (suc_ℤ b))
suc_mono (pos a) (pos b) h = le→leb (suc a) (suc b) (suc-le-suc (leb→le a b h))
suc_mono (pos a) (negsuc b) h = absurd h
suc_mono (negsuc zero) (pos b) h = le→leb zero (suc b) zero-le
suc_mono (negsuc (suc a)) (pos b) h = tt
suc_mono (negsuc zero) (negsuc zero) h = le→leb zero zero zero-le
suc_mono (negsuc zero) (negsuc (suc b)) h = absurd (not-suc-le-zero (leb→le (suc b) zero h))
suc_mono (negsuc (suc a)) (negsuc zero) h = tt
suc_mono (negsuc (suc a)) (negsuc (suc b)) h = le→leb b a (le_of_suc-le-suc (leb→le (suc b) (suc a) h))

pred_mono : (a b : ℤ) → T (le_z a b) → T (le_z (pred_ℤ a) (pred_ℤ b))
pred_mono (pos zero) (pos zero) h = le→leb zero zero zero-le
pred_mono (pos zero) (pos (suc b)) h = tt
pred_mono (pos (suc a)) (pos zero) h = absurd (not-suc-le-zero (leb→le (suc a) zero h))
pred_mono (pos (suc a)) (pos (suc b)) h = le→leb a b (le_of_suc-le-suc (leb→le (suc a) (suc b) h))
pred_mono (pos a) (negsuc b) h = absurd h
pred_mono (negsuc a) (pos zero) h = le→leb zero (suc a) zero-le
pred_mono (negsuc a) (pos (suc b)) h = tt
pred_mono (negsuc a) (negsuc b) h = le→leb (suc b) (suc a) (suc-le-suc (leb→le b a h))

-- ---- a property of every whole number, from 0, one up and one down
pub int_steps : (P : ℤ → Type 0) → P (pos zero) → ((k : ℤ) → P k → P (suc_ℤ k)) → ((k : ℤ) → P k → P (pred_ℤ k)) → (k : ℤ) → P k
int_steps P z up down (pos zero) = z
int_steps P z up down (pos (suc n)) = up (pos n) (int_steps P z up down (pos n))
int_steps P z up down (negsuc zero) = down (pos zero) z
int_steps P z up down (negsuc (suc n)) = down (negsuc n) (int_steps P z up down (negsuc n))

-- ---- sums keep the order
add_mono : (a b : ℤ) → T (le_z a b) → (c : ℤ) → T (le_z (a +ℤ c) (b +ℤ c))
add_mono a b h =
    int_steps (λ c. T (le_z (a +ℤ c) (b +ℤ c))) (subst₂ (λ (x y : ℤ). T (le_z x y)) (sym (+ℤ_idr a)) (sym (+ℤ_idr b)) h)
    (λ k ih. subst₂ (λ (x y : ℤ). T (le_z x y)) (sym (+ℤ-suc_ℤ a k)) (sym (+ℤ-suc_ℤ b k)) (suc_mono (a +ℤ k) (b +ℤ k) ih))
    (λ k ih. subst₂ (λ (x y : ℤ). T (le_z x y)) (sym (+ℤ-pred_ℤ a k)) (sym (+ℤ-pred_ℤ b k)) (pred_mono (a +ℤ k) (b +ℤ k) ih))

pub +ℤ-mono-left : (c : ℤ) {a b : ℤ} → a ≤ℤ b → (a +ℤ c) ≤ℤ (b +ℤ c)
+ℤ-mono-left c {a} {b} h = le_z_yes (add_mono a b h.le c)

pub +ℤ-mono-right : (c : ℤ) {a b : ℤ} → a ≤ℤ b → (c +ℤ a) ≤ℤ (c +ℤ b)
+ℤ-mono-right c {a} {b} h = subst₂ (λ (x y : ℤ). x ≤ℤ y) (+ℤ_comm a c) (+ℤ_comm b c) (+ℤ-mono-left c h)

pub +ℤ-mono : {a b c d : ℤ} → a ≤ℤ b → c ≤ℤ d → (a +ℤ c) ≤ℤ (b +ℤ d)
+ℤ-mono {b = b} {c = c} h k = ≤ℤ-trans (+ℤ-mono-left c h) (+ℤ-mono-right b k)

pub +ℤ-cancel-left : (a : ℤ) {x y : ℤ} → (a +ℤ x) ≤ℤ (a +ℤ y) → x ≤ℤ y
+ℤ-cancel-left a {x} {y} h = subst₂ (λ (u v : ℤ). u ≤ℤ v) (back x) (back y) (+ℤ-mono-left (neg_ℤ a) h)
  where
    back : (u : ℤ) → a +ℤ u -ℤ a ≡ u
    back u = ap (λ (v : ℤ). v -ℤ a) (+ℤ_comm a u) ∙ +ℤ-neg_ℤ_cancel u a

-- what a number at least a has above a is not below 0
pub difference_above : {a z : ℤ} → a ≤ℤ z → pos zero ≤ℤ (z -ℤ a)
difference_above {a} {z} h = subst (λ (x : ℤ). x ≤ℤ (z -ℤ a)) (+ℤ_invr a) (+ℤ-mono-left (neg_ℤ a) h)

-- a number at least a is a and what it has above a
pub above_by : (a z : ℤ) → a ≤ℤ z → z ≡ a +ℤ pos (nat_abs (z -ℤ a))
above_by a z h =
    sym (-ℤ-+ℤ_cancel z a) ∙ ap (λ (x : ℤ). x +ℤ a) (sym (pos-nat_abs (z -ℤ a) (yes_non_neg (difference_above h)))) ∙ +ℤ_comm (pos (nat_abs (z -ℤ a))) a

pub above : (a z : ℤ) → a ≤ℤ z → (j : ℕ) × (z ≡ a +ℤ pos j)
above a z h = (nat_abs (z -ℤ a), above_by a z h)

pub +ℤ-right-comm : (a b c : ℤ) → a +ℤ b +ℤ c ≡ a +ℤ c +ℤ b
+ℤ-right-comm a b c = +ℤ_assoc a b c ∙ ap (λ (x : ℤ). a +ℤ x) (+ℤ_comm b c) ∙ sym (+ℤ_assoc a c b)

-- ---- the sum of a list
pub sum-append : (xs ys : List ℤ) → sum_of (xs ++ ys) ≡ sum_of xs +ℤ sum_of ys
sum-append [] ys = sym (+ℤ_idl (sum_of ys))
sum-append (x ∷ xs) ys = ap (λ (s : ℤ). x +ℤ s) (sum-append xs ys) ∙ sym (+ℤ_assoc x (sum_of xs) (sum_of ys))

-- ---- a difference of natural numbers, by its sign
pub minus_pos : (a b : ℕ) → b ≤ a → pos a -ℤ pos b ≡ pos (a - b)
minus_pos a zero h = ap pos (omega arith)
minus_pos a (suc b) h = rw (le-ltb a (suc b) h) refl

pub minus-neg : (a b : ℕ) → a < b → pos a -ℤ pos b ≡ negsuc (b - suc a)
minus-neg a zero h = absurd (not-suc-le-zero h)
minus-neg a (suc b) h = rw (lt-ltb a (suc b) h) refl
