-- The size of a whole number, where omega reads: a bound on the size of a sum, a product and the sum of a list, and when a number fits a width.
-- Every bound that keeps a partial sum inside 64 bits rests on size-sum.
-- Assumes nothing.
use mathlib.Core.Path.{◌≡◌, refl, sym, ap, ◌∙◌}
use mathlib.Core.Bool.{false, ◌||◌}
use mathlib.Core.List.{List, [], ◌∷◌}
use Prim.Native.Nat.{ℕ, zero, suc, ◌+◌, ◌-◌, ◌*◌, ◌^◌, ◌≤◌, ◌<◌, zero-le}
use native.Mathlib.Nat.{mul-le-mul, suc-mul, le_trans, lt_of_le_of_lt}
use native.Mathlib.Omega.{arith}
use borrow.Author.Tests.{ltb-false, le-ltb, lt-ltb}
use lib.Dec.{ltb, ltb→lt, leb→le, leb-suc-suc}
use lib.IntN.{ℤ, pos, negsuc, neg_ℤ, nat_abs, sub_ℕ, ◌+ℤ◌, ◌*ℤ◌}
use lib.ListN.{length, get_or}
use lib.Signed.{lt_z, mag, ◌≤ℤ◌}
use mir.Facts.{to_z-of_z}
use mir.Syntax.{Width, w64}
use mir.Val.{SFits, to_z, of_z, hbits}
use Rattle.numbers.proofs.Any.{any_none, every_imp, every_get_d}
use Rattle.numbers.proofs.Tests.{cond_ind, or_no, or_none}
use Rattle.numbers.specs.Lists.{any_of, Every}
use Rattle.numbers.specs.Ranges.{outside_z, beyond}
use Rattle.numbers.specs.Sums.{sum_of}

-- a is at most p in size. A record, so that a and p are inferred: ℤ's operations go by cases, under which nothing is.
pub record Size (a : ℤ) (p : ℕ) : Type 0 where
  pub size : nat_abs a ≤ p

-- ---- the size of a sum and of a product
pub nat_abs_neg : (z : ℤ) → nat_abs (neg_ℤ z) ≡ nat_abs z
nat_abs_neg (pos zero) = refl
nat_abs_neg (pos (suc n)) = refl
nat_abs_neg (negsuc n) = refl

pub nat_abs_mul : (a b : ℤ) → nat_abs (a *ℤ b) ≡ nat_abs a * nat_abs b
nat_abs_mul (pos a) (pos b) = refl
nat_abs_mul (pos a) (negsuc b) = nat_abs_neg (pos (a * suc b))
nat_abs_mul (negsuc a) (pos b) = nat_abs_neg (pos (suc a * b))
nat_abs_mul (negsuc a) (negsuc b) = refl

nat_abs_sub : (a b : ℕ) → nat_abs (sub_ℕ a b) ≤ a + b
nat_abs_sub a b =
    cond_ind (ltb a b) (negsuc (b - suc a)) (pos (a - b)) (λ z. nat_abs z ≤ a + b)
    (λ t. omega (arith, ltb→lt a b t)) (λ t. omega arith)

pub nat_abs_add : (a b : ℤ) → nat_abs (a +ℤ b) ≤ nat_abs a + nat_abs b
nat_abs_add (pos a) (pos b) = omega arith
nat_abs_add (pos a) (negsuc b) = nat_abs_sub a (suc b)
nat_abs_add (negsuc a) (pos b) = omega (arith, nat_abs_sub b (suc a))
nat_abs_add (negsuc a) (negsuc b) = omega arith

pub size_zero : (p : ℕ) → Size (pos 0) p
size_zero p = record { size = omega arith }

pub size_mul : {a b : ℤ} {p q : ℕ} → Size a p → Size b q → Size (a *ℤ b) (p * q)
size_mul {a} {b} {p} {q} h k = record { size = omega (arith, nat_abs_mul a b, mul-le-mul h.size k.size) }

pub size_add : {a b : ℤ} {p q : ℕ} → Size a p → Size b q → Size (a +ℤ b) (p + q)
size_add {a} {b} {p} {q} h k = record { size = omega (arith, nat_abs_add a b, h.size, k.size) }

pub size_neg : {a : ℤ} {p : ℕ} → Size a p → Size (neg_ℤ a) p
size_neg {a} {p} h = record { size = omega (arith, nat_abs_neg a, h.size) }

pub size_le : {a : ℤ} {p q : ℕ} → Size a p → p ≤ q → Size a q
size_le {a} {p} {q} h l = record { size = omega (arith, h.size) }

-- between two numbers of size at most p, both included
pub size_between : (a b z : ℤ) {p : ℕ} → Size a p → Size b p → a ≤ℤ z → z ≤ℤ b → Size z p
size_between a (pos b) (pos z) h k l m = record { size = omega (arith, leb→le z b m.le, k.size) }
size_between a (negsuc b) (pos z) h k l m = absurd m.le
size_between (pos a) b (negsuc z) h k l m = absurd l.le
size_between (negsuc a) b (negsuc z) h k l m = record { size = omega (arith, leb→le z a l.le, h.size) }

-- the sum of n members of size at most p is at most n times p in size
pub size_sum : (p : ℕ) (xs : List ℤ) → Every (λ x. Size x p) xs → Size (sum_of xs) (length xs * p)
size_sum p [] h = record { size = omega arith }
size_sum p (x ∷ xs) h = record { size = omega (arith, nat_abs_add x (sum_of xs), h.0.size, (size_sum p xs h.1).size, suc-mul (length xs) p) }

-- ---- from tests
-- what two tests against literals leave: −(k + 1) ≤ a ≤ n
pub size_tested : (k n m : ℕ) (a : ℤ) → lt_z a (negsuc k) ≡ false → lt_z (pos n) a ≡ false → k < m → n ≤ m → Size a m
size_tested k n m (pos x) h l p q = record { size = omega (arith, ltb-false n x l) }
size_tested k n m (negsuc x) h l p q = record { size = omega (arith, ltb-false k x h) }

-- outside −p..p is of a size above p
pub outside_size : (p : ℕ) (z : ℤ) → outside_z (neg_ℤ (pos p)) (pos p) z ≡ ltb p (nat_abs z)
outside_size zero (pos x) = ap (λ t. t || ltb 0 x) (le-ltb x 0 zero-le)
outside_size zero (negsuc x) = sym (lt-ltb 0 (suc x) (omega arith))
outside_size (suc p) (pos x) = refl
outside_size (suc p) (negsuc x) = or_none (ltb p x) ∙ sym (leb-suc-suc (suc p) x)

-- inside −p..p, both included, is of size at most p
pub size_inside : (p : ℕ) (z : ℤ) → outside_z (neg_ℤ (pos p)) (pos p) z ≡ false → Size z p
size_inside p z e = record { size = ltb-false p (nat_abs z) (sym (outside_size p z) ∙ e) }

pub inside_sized : (p : ℕ) (z : ℤ) → Size z p → outside_z (neg_ℤ (pos p)) (pos p) z ≡ false
inside_sized p z h = outside_size p z ∙ le-ltb p (nat_abs z) h.size

-- ---- the members of a list
abbrev pub Sized : ℕ → List ℤ → Type 0
Sized p l = Every (λ x. Size x p) l

pub member_sized : (p : ℕ) (l : List ℤ) → Sized p l → (k : ℕ) → Size (get_or l k (pos 0)) p
member_sized p l h k = every_get_d (λ x. Size x p) l (pos 0) (size_zero p) h k

-- no member is outside −p..p
pub tested_sized : (p : ℕ) (l : List ℤ) → any_of (outside_z (neg_ℤ (pos p)) (pos p)) l ≡ false → Sized p l
tested_sized p l e = every_imp _ _ l (λ x h. size_inside p x h) (any_none (outside_z (neg_ℤ (pos p)) (pos p)) l e)

-- ---- to a width
mag_le : (z : ℤ) → mag z ≤ nat_abs z
mag_le (pos n) = omega arith
mag_le (negsuc n) = omega arith

pub fits_at : (w : Width) {a : ℤ} {p : ℕ} → Size a p → p < 2 ^ hbits w → SFits w a
fits_at w {a} {p} h l = record { sfits = lt_of_le_of_lt (le_trans (mag_le a) h.size) l }

pub fits_size : {a : ℤ} {p : ℕ} → Size a p → p < 2 ^ 63 → SFits w64 a
fits_size h l = fits_at w64 h l

pub beyond_sized : (z : ℤ) {p : ℕ} → Size z p → p < 2 ^ 63 → beyond z ≡ false
beyond_sized (pos x) h l = le-ltb (2 ^ 63 - 1) x (omega (arith, h.size))
beyond_sized (negsuc x) h l = or_no (ltb (2 ^ 63 - 1) x) false (le-ltb (2 ^ 63 - 1) x (omega (arith, h.size))) refl

-- a number that fits, stored and read again, keeps its size
pub size_read : {z : ℤ} {p : ℕ} → Size z p → p < 2 ^ 63 → Size (to_z w64 (of_z w64 z)) p
size_read {z} {p} h l = record { size = omega (arith, ap nat_abs (to_z-of_z {w = w64} (fits_size h l)), h.size) }
