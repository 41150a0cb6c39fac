-- ℤ as a linear order, by its test le_z and by the record _≤ℤ_; total-≤ and total-≥ are the two orders that least is used with.
-- Assumes nothing.
use mathlib.Core.Path.{◌≡◌, refl, ap, subst, sym}
use mathlib.Core.Bool.{Bool, false, not}
use Prim.Native.Nat.{ℕ, ◌≤◌}
use native.Mathlib.Nat.{le_trans, le_antisymm, le_of_lt}
use lib.Dec.{T, leb→le, le→leb, nleb→lt}
use lib.IntN.{ℤ, pos, negsuc}
use lib.Signed.{le_z, lt_z, ◌≤ℤ◌, le_z_yes, lt_z_no, ≤ℤ_refl}
use Rattle.numbers.specs.Order.{Total, at_least}
use Rattle.numbers.proofs.Tests.{leb_not_ltb}

-- ---- transitive, antisymmetric, total
chain : (a b c : ℤ) → T (le_z a b) → T (le_z b c) → T (le_z a c)
chain (pos a) (pos b) (pos c) h k = le→leb a c (le_trans (leb→le a b h) (leb→le b c k))
chain (pos a) (pos b) (negsuc c) h k = absurd k
chain (pos a) (negsuc b) c h k = absurd h
chain (negsuc a) (pos b) (pos c) h k = tt
chain (negsuc a) (pos b) (negsuc c) h k = absurd k
chain (negsuc a) (negsuc b) (pos c) h k = tt
chain (negsuc a) (negsuc b) (negsuc c) h k = le→leb c a (le_trans (leb→le c b k) (leb→le b a h))

same : (a b : ℤ) → T (le_z a b) → T (le_z b a) → a ≡ b
same (pos a) (pos b) h k = ap pos (le_antisymm (leb→le a b h) (leb→le b a k))
same (pos a) (negsuc b) h k = absurd h
same (negsuc a) (pos b) h k = absurd k
same (negsuc a) (negsuc b) h k = ap negsuc (le_antisymm (leb→le a b k) (leb→le b a h))

other : (a b : ℤ) → T (not (le_z a b)) → T (le_z b a)
other (pos a) (pos b) h = le→leb b a (le_of_lt (nleb→lt a b h))
other (pos a) (negsuc b) h = tt
other (negsuc a) (pos b) h = absurd h
other (negsuc a) (negsuc b) h = le→leb a b (le_of_lt (nleb→lt b a h))

pub ≤ℤ-trans : {a b c : ℤ} → a ≤ℤ b → b ≤ℤ c → a ≤ℤ c
≤ℤ-trans {a} {b} {c} h k = le_z_yes (chain a b c h.le k.le)

pub ≤ℤ-antisymm : {a b : ℤ} → a ≤ℤ b → b ≤ℤ a → a ≡ b
≤ℤ-antisymm {a} {b} h k = same a b h.le k.le

pub total_≤ : Total le_z
total_≤ = record { itself = λ a. (≤ℤ_refl a).le; chain = chain; same = same; other = other }

-- an order turned round is an order
pub total-turned : {A : Type 0} {le : A → A → Bool} → Total le → Total (λ a b. le b a)
total-turned O = record {
  itself = O.itself;
  chain = λ a b c h k. O.chain c b a k h;
  same = λ a b h k. O.same a b k h;
  other = λ a b h. O.other b a h;
}

pub total_≥ : Total at_least
total_≥ = total-turned total_≤

-- ---- a test that failed, as an equation
pub lt_z_false : {a b : ℤ} → lt_z a b ≡ false → b ≤ℤ a
lt_z_false {a} {b} e = lt_z_no (subst (λ t. T (not t)) (sym e) tt)

-- not below is at or above
pub le_z_not_lt_z : (a b : ℤ) → le_z a b ≡ not (lt_z b a)
le_z_not_lt_z (pos a) (pos b) = leb_not_ltb a b
le_z_not_lt_z (pos a) (negsuc b) = refl
le_z_not_lt_z (negsuc a) (pos b) = refl
le_z_not_lt_z (negsuc a) (negsuc b) = leb_not_ltb b a

-- ---- natural numbers among the whole ones
pub pos_≤ : {m n : ℕ} → m ≤ n → pos m ≤ℤ pos n
pos_≤ {m} {n} h = le_z_yes (le→leb m n h)

pub ≤-pos : {m n : ℕ} → pos m ≤ℤ pos n → m ≤ n
≤-pos {m} {n} h = leb→le m n h.le
