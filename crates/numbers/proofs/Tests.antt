-- Tests and what their answers say: as a fact, of disjunctions, of one number more, of a choice.
-- Assumes nothing.
use mathlib.Core.Path.{◌≡◌, refl, sym, ap, subst, ◌∙◌}
use mathlib.Core.Bool.{Bool, true, false, ◌||◌, ◌&&◌, not, cond, true≢false}
use Prim.Native.Nat.{ℕ, ◌+◌, ◌≤◌, ◌<◌}
use native.Mathlib.Omega.{arith}
use borrow.Author.Tests.{eqb-true, eqb-false, ltb-true, ltb-false, lt-ltb, le-ltb, le-leb, lt-leb}
use lib.Dec.{T, eqb, leb, ltb}

-- an answer as a fact
pub T_true : {t : Bool} → t ≡ true → T t
T_true e = subst T (sym e) tt

pub T_false : {t : Bool} → t ≡ false → T (not t)
T_false e = subst (λ b. T (not b)) (sym e) tt

pub or_false : (a b : Bool) → a || b ≡ false → (a ≡ false) × (b ≡ false)
or_false true b e = absurd (true≢false e)
or_false false b e = (refl, e)

pub or_no : (a b : Bool) → a ≡ false → b ≡ false → a || b ≡ false
or_no a b p q = rw (p, q) refl

pub or_none : (a : Bool) → a || false ≡ a
or_none true = refl
or_none false = refl

pub or_assoc : (a b c : Bool) → (a || b) || c ≡ a || (b || c)
or_assoc true b c = refl
or_assoc false b c = refl

pub and_true : (a b : Bool) → a && b ≡ true → (a ≡ true) × (b ≡ true)
and_true true b e = (refl, e)
and_true false b e = absurd (true≢false (sym e))

-- below n + 1: n itself, or below n
pub ltb-more : (k n : ℕ) → ltb k (n + 1) ≡ eqb k n || ltb k n
ltb-more k n = go (eqb k n) (ltb k n) refl refl
  where
    go : (s t : Bool) → eqb k n ≡ s → ltb k n ≡ t → ltb k (n + 1) ≡ s || t
    go true t p q = lt-ltb k (n + 1) (omega (arith, eqb-true k n p))
    go false true p q = lt-ltb k (n + 1) (omega (arith, ltb-true k n q))
    go false false p q = le-ltb k (n + 1) (past (eqb-false k n p) (ltb-false k n q))
      where
        past : (k ≡ n → ⊥) → n ≤ k → n + 1 ≤ k
        past h l = omega arith

-- a choice, by either answer of its test
pub cond_ind : {A : Type 0} (t : Bool) (x y : A) (P : A → Type 0) → (T t → P x) → (T (not t) → P y) → P (cond t x y)
cond_ind true x y P f g = f tt
cond_ind false x y P f g = g tt

pub cond_yes : {A : Type 0} (t : Bool) (x y : A) → t ≡ true → cond t x y ≡ x
cond_yes t x y e = ap (λ s. cond s x y) e

pub cond_no : {A : Type 0} (t : Bool) (x y : A) → t ≡ false → cond t x y ≡ y
cond_no t x y e = ap (λ s. cond s x y) e

-- not below is at or above
pub leb_not_ltb : (n k : ℕ) → leb n k ≡ not (ltb k n)
leb_not_ltb n k = go (ltb k n) refl
  where
    go : (t : Bool) → ltb k n ≡ t → leb n k ≡ not t
    go true e = lt-leb n k (ltb-true k n e)
    go false e = le-leb n k (ltb-false k n e)

-- a ≤ b and c < d say the same
pub leb-ltb : (a b c d : ℕ) → (a ≤ b → c < d) → (c < d → a ≤ b) → leb a b ≡ ltb c d
leb-ltb a b c d f g = go (ltb c d) refl
  where
    go : (t : Bool) → ltb c d ≡ t → leb a b ≡ t
    go true e = le-leb a b (g (ltb-true c d e))
    go false e = lt-leb a b (over (ltb-false c d e))
      where
        over : d ≤ c → b < a
        over h = past (λ l. clash (f l) h)
          where
            clash : c < d → d ≤ c → ⊥
            clash p q = omega arith

            past : (a ≤ b → ⊥) → b < a
            past n = omega arith

-- what a call answered and what was then tested, together: the condition's own value
pub condition_is : {r b t : Bool} → r ≡ b → r ≡ t → b ≡ t
condition_is e f = sym e ∙ f
