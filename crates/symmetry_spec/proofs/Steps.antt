-- The class, step by step: from the length's parity and the answers of the two searches, over the element and the test of a
-- pair. Assumes nothing.
use Prim.Native.Nat.{ℕ, ◌%◌}
use mathlib.Core.Path.{◌≡◌, refl, ap}
use mathlib.Core.Bool.{Bool, true, false, cond}
use mathlib.Core.List.{List}
use mathlib.Core.Logic.{◌⊎◌, ⊎_elim}
use native.Mathlib.Omega.{arith}
use borrow.Author.Tests.{eq-eqb, ne_eqb}
use denote.Enum.Declared.{tag_of}
use lib.ListN.{length}
use Rattle.symmetry_spec.specs.Class.{pair_differs, class_of}
use Rattle.symmetry_spec.specs.declared.SymmetryState.{SymmetryState}
use Rattle.symmetry_spec.specs.declared.SymmetryState.TheVariants.{NonSymmetric, Symmetric, AntiSymmetric}
use Rattle.symmetry_spec.specs.contracts.SymmetryState.{the_type}

-- a state with the tag of another variant
pub not_non : (s : SymmetryState) → (tag_of the_type s ≡ 1) ⊎ (tag_of the_type s ≡ 2) → s ≡ NonSymmetric → ⊥
not_non s k e =
    let z : tag_of the_type s ≡ 0 = ap (tag_of the_type) e in
    ⊎_elim (λ (a : tag_of the_type s ≡ 1). omega arith) (λ (a : tag_of the_type s ≡ 2). omega arith) k

cond-kept : (b : Bool) (s second : SymmetryState) → s ≡ cond b NonSymmetric Symmetric → (s ≡ NonSymmetric → ⊥) → s ≡ cond b second Symmetric
cond-kept true s second e h = absurd (h e)
cond-kept false s second e h = e

cond-left : (b : Bool) (s second : SymmetryState) → s ≡ cond b NonSymmetric Symmetric → s ≡ NonSymmetric → second ≡ cond b second Symmetric
cond-left true s second e h = refl
cond-left false s second e h = let z : ◌≡◌ {A = ℕ} 0 1 = cc in absurd (omega arith)

module _ {A : Type 0} (t : Bool → A → A → Bool) (d : A) (w : List A) where
  pub class_even : length w % 2 ≡ 0 → NonSymmetric ≡ class_of t d w
  class_even h = rw (eq-eqb (length w % 2) 0 h) refl

  -- first is what the first search answers, second what the second one does
  module _ (odd : length w % 2 ≡ 0 → ⊥) (first : SymmetryState) (found : first ≡ cond (pair_differs (t false) d w) NonSymmetric Symmetric) where
    pub class_first : (first ≡ NonSymmetric → ⊥) → first ≡ class_of t d w
    class_first h = rw (ne_eqb (length w % 2) 0 odd) (cond-kept (pair_differs (t false) d w) first (cond (pair_differs (t true) d w) NonSymmetric AntiSymmetric) found h)

    pub class_second : (second : SymmetryState) → first ≡ NonSymmetric → second ≡ cond (pair_differs (t true) d w) NonSymmetric AntiSymmetric → second ≡ class_of t d w
    class_second second h e = rw (ne_eqb (length w % 2) 0 odd, ← e) (cond-left (pair_differs (t false) d w) first second found h)
