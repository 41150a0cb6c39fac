-- What a class says of the weights, over the element and the test of a pair: an odd number of them, and no mirrored pair differs. Of whole
-- weights the right one of a pair is then the left one, or its negative. Assumes nothing.
use Prim.Native.Nat.{ℕ, zero, suc, ◌+◌, ◌-◌, ◌/◌, ◌%◌, ◌≤◌, ◌<◌}
use mathlib.Core.Path.{◌≡◌, refl, sym}
use mathlib.Core.Bool.{Bool, true, false, not, ◌||◌, cond, true≢false}
use mathlib.Core.List.{List}
use mathlib.Core.Logic.{⊎_elim}
use native.Mathlib.Nat.{eq-or-lt_of_le}
use native.Mathlib.Omega.{arith}
use borrow.Author.Tests.{eqb-false}
use lib.Dec.{eqb}
use lib.IntN.{ℤ, pos, neg_ℤ}
use lib.ListN.{length, get_or}
use Rattle.symmetry_spec.specs.Class.{some_differs, pair_differs, class_of, equal_z, differ_z, class_z}
use Rattle.symmetry_spec.specs.declared.SymmetryState.TheVariants.{NonSymmetric, Symmetric, AntiSymmetric}
use Rattle.symmetry_spec.proofs.Bits.{equal_true}

-- an odd number of weights, and P of the right and the left weight of every mirrored pair
pub record Mirrored {A : Type 0} (P : A → A → Type 0) (d : A) (w : List A) : Type 0 where
  pub odd : length w % 2 ≡ 1
  pub pairs : (j : ℕ) → j < length w / 2 → P (get_or w (length w - 1 - j) d) (get_or w j d)

or_none : (a b : Bool) → a || b ≡ false → (a ≡ false) × (b ≡ false)
or_none true b e = absurd (true≢false e)
or_none false b e = (refl, e)

module _ {A : Type 0} (t : A → A → Bool) (d : A) (w : List A) where
  differs_none : (h n k : ℕ) → some_differs t d w h n ≡ false → 1 ≤ k → k ≤ n → t (get_or w (h + k) d) (get_or w (h - k) d) ≡ false
  unfolding some_differs
  differs_none h zero k e a b = absurd (omega arith)
  differs_none h (suc n) k e a b =
      let p = or_none (some_differs t d w h n) _ e in
      ⊎_elim (λ (q : k ≡ suc n). rw q p.1) (λ (l : k < suc n). differs_none h n k p.0 a (omega arith)) (eq-or-lt_of_le b)

  mirrored_none : (length w % 2 ≡ 0 → ⊥) → pair_differs t d w ≡ false → Mirrored (λ x y. t x y ≡ false) d w
  mirrored_none o e = record { odd = omega arith; pairs = pairs }
    where
      pairs : (j : ℕ) → j < length w / 2 → t (get_or w (length w - 1 - j) d) (get_or w j d) ≡ false
      pairs j b =
          let h = length w / 2 in
          let p : h + (h - j) ≡ length w - 1 - j = omega arith in
          let q : h - (h - j) ≡ j = omega arith in
          rw (p, q) at (differs_none h h (h - j) e (omega arith) (omega arith))

-- ---- a class, taken apart
never : {C : Type 0} → NonSymmetric ≡ Symmetric → C
never e = let z : ◌≡◌ {A = ℕ} 0 1 = cc in absurd (omega arith)

never_anti : {C : Type 0} → NonSymmetric ≡ AntiSymmetric → C
never_anti e = let z : ◌≡◌ {A = ℕ} 0 1 = cc in absurd (omega arith)

unlike : {C : Type 0} → Symmetric ≡ AntiSymmetric → C
unlike e = let z : ◌≡◌ {A = ℕ} 0 1 = cc in absurd (omega arith)

symmetric_tests : (even first second : Bool) → cond even NonSymmetric (cond first (cond second NonSymmetric AntiSymmetric) Symmetric) ≡ Symmetric → (even ≡ false) × (first ≡ false)
symmetric_tests true first second e = never e
symmetric_tests false true true e = never e
symmetric_tests false true false e = unlike (sym e)
symmetric_tests false false second e = (refl, refl)

anti_tests : (even first second : Bool) → cond even NonSymmetric (cond first (cond second NonSymmetric AntiSymmetric) Symmetric) ≡ AntiSymmetric → (even ≡ false) × (second ≡ false)
anti_tests true first second e = never_anti e
anti_tests false true true e = never_anti e
anti_tests false true false e = (refl, refl)
anti_tests false false second e = unlike e

module _ {A : Type 0} (t : Bool → A → A → Bool) (d : A) (w : List A) where
  pub class_symmetric : class_of t d w ≡ Symmetric → Mirrored (λ x y. t false x y ≡ false) d w
  class_symmetric e =
      let p = symmetric_tests (eqb (length w % 2) 0) (pair_differs (t false) d w) (pair_differs (t true) d w) e in
      mirrored_none (t false) d w (eqb-false (length w % 2) 0 p.0) p.1

  pub class_anti : class_of t d w ≡ AntiSymmetric → Mirrored (λ x y. t true x y ≡ false) d w
  class_anti e =
      let p = anti_tests (eqb (length w % 2) 0) (pair_differs (t false) d w) (pair_differs (t true) d w) e in
      mirrored_none (t true) d w (eqb-false (length w % 2) 0 p.0) p.1

-- ---- whole weights
same_whole : (turned : Bool) (a b : ℤ) → differ_z turned a b ≡ false → a ≡ cond turned (neg_ℤ b) b
same_whole turned a b e = equal_true a (cond turned (neg_ℤ b) b) (no (equal_z a (cond turned (neg_ℤ b) b)) e)
  where
    no : (t : Bool) → not t ≡ false → t ≡ true
    no true e = refl
    no false e = absurd (true≢false e)

module _ (w : List ℤ) where
  mirrored_whole : (turned : Bool) → Mirrored (λ x y. differ_z turned x y ≡ false) (pos 0) w → Mirrored (λ x y. x ≡ cond turned (neg_ℤ y) y) (pos 0) w
  mirrored_whole turned m =
      record { odd = m.odd; pairs = λ j b. same_whole turned (get_or w (length w - 1 - j) (pos 0)) (get_or w j (pos 0)) (m.pairs j b) }

  pub whole_symmetric : class_z w ≡ Symmetric → Mirrored (λ x y. x ≡ y) (pos 0) w
  whole_symmetric e = mirrored_whole false (class_symmetric differ_z (pos 0) w e)

  pub whole_anti : class_z w ≡ AntiSymmetric → Mirrored (λ x y. x ≡ neg_ℤ y) (pos 0) w
  whole_anti e = mirrored_whole true (class_anti differ_z (pos 0) w e)
