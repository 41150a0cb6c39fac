-- A grid that conditions 1, 2 and 3 judge before the conditions ks of a call: which number the call gets, and what an accepted one has passed.
-- Assumes nothing.
use mathlib.Core.Path.{◌≡◌, sym, ◌∙◌}
use mathlib.Core.Bool.{Bool, false}
use mathlib.Core.List.{List, [], ◌∷◌, ◌++◌}
use Prim.Native.Nat.{ℕ, ◌≤◌, ◌<◌}
use native.Mathlib.Omega.{arith}
use lib.Dec.{T, ltb}
use lib.IntN.{ℤ}
use lib.ListN.{length}
use Rattle.numbers.specs.Lists.{any_of, Every}
use Rattle.numbers.specs.Refusal.{Judged, refusal_of}
use Rattle.numbers.proofs.Any.{any_none}
use Rattle.numbers.specs.Number.{refusal_number}
use Rattle.numbers.specs.declared.Refusal.{Refusal}
use Rattle.numbers.proofs.Chain.{judged-all, chain_ends}
use Rattle.numbers.proofs.Number.{refused, goes_on}
use Rattle.numbers.proofs.Size.{Sized, tested_sized}
use Rattle.array_spec.specs.Conditions.{bad_shape, bad_length, bad_level, grid_judged_by}
use Rattle.array_spec.specs.Grid.{cell_count}
use Rattle.array_spec.proofs.Shapes.{count_accepted, shape-accepted, length-judged}

-- lengths that condition 2 accepts, of a shape that condition 1 accepts
pub lengths_passed : (ns : List ℕ) (lengths : List ℕ) → bad_shape ns ≡ false → any_of (bad_length ns) lengths ≡ false → Every (λ len. len ≡ cell_count ns) lengths
lengths_passed ns lengths e h = each lengths (any_none (bad_length ns) lengths h)
  where
    each : (ls : List ℕ) → Every (λ len. bad_length ns len ≡ false) ls → Every (λ len. len ≡ cell_count ns) ls
    each [] h = tt
    each (l ∷ ls) h = (length-judged ns l h.0 ∙ count_accepted ns e, each ls h.1)

-- a grid that all three accept, and the grids lent with it
pub record PassedGrid {A : Type 0} (bad : A → Bool) (ns : List ℕ) (cells : List A) (lent : List ℕ) : Type 0 where
  pub shape : bad_shape ns ≡ false
  pub count : length cells ≡ cell_count ns
  pub lengths : Every (λ len. len ≡ cell_count ns) lent
  pub levels : any_of bad cells ≡ false

-- the first grid that is lent has as many cells
pub lent_same : {A : Type 0} {bad : A → Bool} {ns : List ℕ} {cells : List A} {len : ℕ} {lent : List ℕ} → PassedGrid bad ns cells (len ∷ lent) → len ≡ length cells
lent_same G = G.lengths.0 ∙ sym G.count

-- a grid of neither one axis nor two has three
pub axes_three : {A : Type 0} {bad : A → Bool} {ns : List ℕ} {cells : List A} {lent : List ℕ} → PassedGrid bad ns cells lent → (length ns ≡ 1 → ⊥) → (length ns ≡ 2 → ⊥) → length ns ≡ 3
axes_three {ns = ns} G p q = let S = shape-accepted ns G.shape in at (length ns) S.some S.few p q
  where
    at : (n : ℕ) → 0 < n → n ≤ 3 → (n ≡ 1 → ⊥) → (n ≡ 2 → ⊥) → n ≡ 3
    at n h f p q = omega arith

module _ {A : Type 0} (bad : A → Bool) (ns : List ℕ) (cells : List A) (lent : List ℕ) (ks : Judged) where
  -- an accepted call: its grid has passed, and none of its own conditions holds
  pub grid_passed : Every (λ j. T (ltb 0 j.1)) ks → refusal_of (grid_judged_by bad ns cells lent ++ ks) ≡ 0 → PassedGrid bad ns cells lent × Every (λ j. j.0 ≡ false) ks
  grid_passed p e =
      let J = judged-all (grid_judged_by bad ns cells lent ++ ks) (tt, (tt, (tt, p))) e in
      let l = lengths_passed ns (length cells ∷ lent) J.0 J.1.0 in
      (record { shape = J.0; count = l.0; lengths = l.1; levels = J.1.1.0 }, J.1.1.1)

  -- the call's number, from the grid's own
  pub grid_refused : (r : Refusal) → refusal_number r ≡ refusal_of (grid_judged_by bad ns cells lent) → refusal_number r ≡ refusal_of (grid_judged_by bad ns cells lent ++ ks)
  grid_refused = refused (grid_judged_by bad ns cells lent) ks (tt, (tt, (tt, tt)))

  pub grid_accepted : {r : ℕ} → 0 ≡ refusal_of (grid_judged_by bad ns cells lent) → r ≡ refusal_of ks → r ≡ refusal_of (grid_judged_by bad ns cells lent ++ ks)
  grid_accepted e h = goes_on (grid_judged_by bad ns cells lent) ks (tt, (tt, (tt, tt))) e h

-- the same of a call that does not ask about its last condition t, since it never holds where the grid has passed and none of the conditions js holds
module _ {A : Type 0} (bad : A → Bool) (ns : List ℕ) (cells : List A) (lent : List ℕ) (js : Judged) (t : Bool) (n : ℕ) (p : Every (λ j. T (ltb 0 j.1)) js) where
  pub grid_ends : {r : ℕ} → 0 ≡ refusal_of (grid_judged_by bad ns cells lent) → r ≡ refusal_of js
      → (PassedGrid bad ns cells lent → Every (λ j. j.0 ≡ false) js → t ≡ false) → r ≡ refusal_of (grid_judged_by bad ns cells lent ++ js ++ ((t, n) ∷ []))
  grid_ends e q h =
      grid_accepted bad ns cells lent (js ++ ((t, n) ∷ [])) e
      (chain_ends js t n p q (λ y. h (grid_passed bad ns cells lent [] tt (sym e)).0 (judged-all js p (sym q ∙ y))))

-- the size of a level that condition 3 accepts
pub levels_sized : (cells : List ℤ) → any_of bad_level cells ≡ false → Sized 2147483647 cells
unfolding bad_level
levels_sized cells e = tested_sized 2147483647 cells e
