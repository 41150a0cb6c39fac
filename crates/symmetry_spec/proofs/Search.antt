-- The search for a mirrored pair that differs, over the element and the test of a pair: what holds before distance i, and what
-- the search answers. Assumes nothing.
use Prim.Native.Nat.{ℕ, zero, suc, ◌+◌, ◌-◌, ◌≤◌, ◌<◌}
use mathlib.Core.Path.{◌≡◌, refl}
use mathlib.Core.Bool.{Bool, true, false, ◌||◌, cond}
use mathlib.Core.List.{List}
use mathlib.Core.Logic.{⊎_elim}
use native.Mathlib.Nat.{eq-or-lt_of_le}
use native.Mathlib.Omega.{arith}
use lib.ListN.{get_or}
use Rattle.symmetry_spec.specs.Class.{some_differs}
use Rattle.symmetry_spec.specs.declared.SymmetryState.{SymmetryState}
use Rattle.symmetry_spec.specs.declared.SymmetryState.TheVariants.{NonSymmetric}

-- no pair at a distance below i differs, and the state is still the one that the search began with
pub record Passed {A : Type 0} (t : A → A → Bool) (d : A) (w : List A) (h : ℕ) (state found : SymmetryState) (i : ℕ) : Type 0 where
  pub low : 1 ≤ i
  pub high : i ≤ h + 1
  pub kept : found ≡ state
  pub none : some_differs t d w h (i - 1) ≡ false

or_false : (a b : Bool) → a ≡ false → b ≡ false → a || b ≡ false
or_false a b p q = rw (p, q)

or_right : (a b : Bool) → b ≡ true → a || b ≡ true
or_right true b p = refl
or_right false b p = p

module _ {A : Type 0} (t : A → A → Bool) (d : A) (w : List A) (h : ℕ) where
  differs_more : (i : ℕ) → 1 ≤ i → some_differs t d w h (i - 1) ≡ false → t (get_or w (h + i) d) (get_or w (h - i) d) ≡ false → some_differs t d w h (i + 1 - 1) ≡ false
  unfolding some_differs
  differs_more zero b p q = absurd (omega arith)
  differs_more (suc i) b p q =
      let e : suc i - 1 ≡ i = omega arith in
      let f : suc i + 1 - 1 ≡ suc i = omega arith in
      rw f (or_false _ _ (rw e at p) q)

  differs_hit : (k i : ℕ) → 1 ≤ i → i ≤ k → t (get_or w (h + i) d) (get_or w (h - i) d) ≡ true → some_differs t d w h k ≡ true
  unfolding some_differs
  differs_hit zero i a b q = absurd (omega arith)
  differs_hit (suc k) i a b q =
      ⊎_elim (λ (e : i ≡ suc k). or_right (some_differs t d w h k) _ (rw e at q)) (λ (l : i < suc k). rw (differs_hit k i a (omega arith) q) refl) (eq-or-lt_of_le b)

  module _ (state : SymmetryState) where
    pub passed_none : Passed t d w h state state 1
    unfolding some_differs
    passed_none = record { low = omega arith; high = omega arith; kept = refl; none = refl }

    pub passed_more : (found : SymmetryState) (i : ℕ) → Passed t d w h state found i → i ≤ h → t (get_or w (h + i) d) (get_or w (h - i) d) ≡ false
        → Passed t d w h state found (i + 1)
    passed_more found i p b q =
        record { low = omega arith; high = omega arith; kept = p.kept; none = differs_more i p.low p.none q }

    pub passed_all : (found : SymmetryState) (i : ℕ) → Passed t d w h state found i → h < i → found ≡ cond (some_differs t d w h h) NonSymmetric state
    passed_all found i p b =
        let e : i - 1 ≡ h = let l = p.high in omega arith in
        rw (rw e at p.none) p.kept

    pub passed_last : (found : SymmetryState) (i : ℕ) → Passed t d w h state found i → i ≡ h → t (get_or w (h + i) d) (get_or w (h - i) d) ≡ false
        → found ≡ cond (some_differs t d w h h) NonSymmetric state
    passed_last found i p b q = passed_all found (i + 1) (passed_more found i p (omega arith) q) (omega arith)

    pub passed_hit : (found : SymmetryState) (i : ℕ) → Passed t d w h state found i → i ≤ h → t (get_or w (h + i) d) (get_or w (h - i) d) ≡ true
        → NonSymmetric ≡ cond (some_differs t d w h h) NonSymmetric state
    passed_hit found i p b q = rw (differs_hit h i p.low b q) refl
