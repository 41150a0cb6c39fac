-- A level with 2^30 added, modulo 2^64: it is below 2^31 exactly where the level is inside −2^30..2^30 − 1.
-- Assumes nothing.
use Rattle.std.proofs.Common.{◌≡◌, ℕ, suc, ◌-◌, ◌^◌, ◌<◌, ◌≤◌, Bool, true, false, ltb, List, ℤ, pos, negsuc, ◌+ℤ◌, neg_ℤ, sym, refl, ap, ◌∙◌, arith, w64, to_z, of_z, ltb-false, ltb-true, le-ltb, lt-ltb}
use lib.Signed.{mag}
use mir.ValLaws.{to_z-of_z}
use Rattle.numbers.specs.Ranges.{outside_z}
use Rattle.array_levels.specs.Near.{is_far, lift_of}
use Rattle.numbers.specs.Lists.{any_of}
use Rattle.numbers.proofs.Any.{none_any, any_none, every_imp}
use Rattle.numbers.proofs.Tests.{cond_no, or_none, or_no, or_false}

abbrev read : ℤ → ℤ
read z = to_z w64 (of_z w64 z)

-- a number less a size that is at most that
from_below : (p k : ℕ) → k < p → negsuc k +ℤ pos p ≡ pos (p - suc k)
from_below p k h = cond_no (ltb p (suc k)) (negsuc (suc k - suc p)) (pos (p - suc k)) (le-ltb p (suc k) h)

agree : (a b : Bool) → (a ≡ true → b ≡ true) → (b ≡ true → a ≡ true) → a ≡ b
agree true b f g = sym (f refl)
agree false true f g = g refl
agree false false f g = refl

-- ---- what a lifted level tells: whether the level is far, and of any other what it is
pub record Lift (z : ℤ) (r : ℕ) : Type 0 where
  pub far : ltb 2147483647 r ≡ is_far z
  pub near : r ≤ 2147483647 → pos r ≡ z +ℤ pos (2 ^ 30)

far_lifted : (z : ℤ) {m : ℕ} → mag z < 2 ^ 63 → m ≡ lift_of z → ltb 2147483647 m ≡ is_far z
far_lifted (pos n) {m} h q = agree _ _ (λ t. lt-ltb (2 ^ 30 - 1) n (omega (arith, ltb-true 2147483647 m t))) (λ t. lt-ltb 2147483647 m (omega (arith, ltb-true (2 ^ 30 - 1) n t)))
far_lifted (negsuc k) {m} h q =
    agree _ _ (λ t. lt-ltb (2 ^ 30 - 1) k (omega (arith, ltb-true 2147483647 m t))) (λ t. lt-ltb 2147483647 m (omega (arith, ltb-true (2 ^ 30 - 1) k t)))
    ∙ sym (or_none (ltb (2 ^ 30 - 1) k))

near_lifted : (z : ℤ) {m : ℕ} → mag z < 2 ^ 63 → m ≡ lift_of z → m ≤ 2147483647 → pos m ≡ z +ℤ pos (2 ^ 30)
near_lifted (pos n) h q b = ap pos (omega arith)
near_lifted (negsuc k) {m} h q b =
    let m_is : m ≡ 2 ^ 30 - suc k = omega arith in
    ap pos m_is ∙ sym (from_below (2 ^ 30) k (omega arith))

-- of a level that was stored and read again
pub lift_read : (z : ℤ) {m : ℕ} → mag z < 2 ^ 63 → m ≡ lift_of (read z) → Lift z m
lift_read z h e = let q = e ∙ ap lift_of (to_z-of_z w64 z (record { sfits = h })) in record { far = far_lifted z h q; near = near_lifted z h q }

-- ---- no level outside −2^30..2^30 − 1: none outside −(2^31 − 1)..2^31 − 1
near_inside : (z : ℤ) → is_far z ≡ false → outside_z (neg_ℤ (pos (2 ^ 31 - 1))) (pos (2 ^ 31 - 1)) z ≡ false
near_inside (pos n) e = le-ltb (2 ^ 31 - 1) n (omega (arith, ltb-false (2 ^ 30 - 1) n e))
near_inside (negsuc k) e = or_no (ltb (2 ^ 31 - 2) k) false (le-ltb (2 ^ 31 - 2) k (omega (arith, ltb-false (2 ^ 30 - 1) k (or_false (ltb (2 ^ 30 - 1) k) false e).0))) refl

pub none-outside : (s : List ℤ) → any_of is_far s ≡ false → any_of (outside_z (neg_ℤ (pos (2 ^ 31 - 1))) (pos (2 ^ 31 - 1))) s ≡ false
none-outside s e = none_any _ s (every_imp _ _ s near_inside (any_none _ s e))
