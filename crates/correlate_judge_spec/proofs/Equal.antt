-- Condition 5 of a grid kernel, test by test, and a kernel that it accepts: its sides are all the first, and its weights are at most 343.
-- Assumes nothing.
use Prim.Native.Nat.{ℕ, ◌*◌, ◌≤◌, ◌<◌}
use mathlib.Core.Path.{◌≡◌, refl, sym, ap, ◌∙◌}
use mathlib.Core.Bool.{Bool, true, false, not, ◌||◌}
use mathlib.Core.List.{List, [], ◌∷◌}
use native.Mathlib.Nat.{mul-le-mul}
use native.Mathlib.Omega.{arith}
use borrow.Author.Tests.{ltb-false, le-ltb, eq-eqb, ne_eqb, eqb-true, not-false}
use lib.Dec.{eqb, ltb}
use lib.ListN.{length, replicate}
use Rattle.numbers.specs.Lists.{any_of}
use Rattle.numbers.specs.Ranges.{outside}
use Rattle.numbers.proofs.Any.{any_none, none_any, every_imp}
use Rattle.numbers.proofs.Tests.{or_false, or_no}
use Rattle.array_spec.specs.Conditions.{bad_shape, bad_length}
use Rattle.array_spec.specs.Grid.{cell_count}
use Rattle.array_spec.proofs.Shapes.{Accepted, shape-accepted, count_accepted}
use Rattle.correlate_spec.specs.Kernel.{sides_of, side_of_lem}
use Rattle.correlate_judge_spec.specs.KernelJudge.{bad_side, bad_kernel}

-- ---- one side
record Side (first side : ℕ) : Type 0 where
  equal : side ≡ first
  some : 0 < side
  narrow : side ≤ 7

side_in : (first side : ℕ) → bad_side first side ≡ false → Side first side
side_in first side e =
    let p = or_false (outside 1 7 side) (not (eqb side first)) e in
    let q = or_false (ltb side 1) (ltb 7 side) p.0 in
    record { equal = eqb-true side first (not-false (eqb side first) p.1); some = omega (arith, ltb-false side 1 q.0); narrow = ltb-false 7 side q.1 }

-- ---- all sides
module _ (first : ℕ) where
  all_equal : (sides : List ℕ) → any_of (bad_side first) sides ≡ false → sides ≡ replicate (length sides) first
  all_equal [] e = refl
  all_equal (s ∷ sides) e = let p = or_false (bad_side first s) (any_of (bad_side first) sides) e in (λ j. (side_in first s p.0).equal j ∷ all_equal sides p.1 j)

  last-cells : (s : ℕ) → bad_side first s ≡ false → s * 1 ≤ 7
  last-cells s h = omega (arith, (side_in first s h).narrow)

  -- the product: at most 7 for each of three
  few_cells : (sides : List ℕ) → any_of (bad_side first) sides ≡ false → length sides ≤ 3 → cell_count sides ≤ 343
  few_cells [] e f = omega arith
  few_cells (a ∷ []) e f = let p = or_false (bad_side first a) false e in omega (arith, last-cells a p.0)
  few_cells (a ∷ b ∷ []) e f =
      let p = or_false (bad_side first a) (any_of (bad_side first) (b ∷ [])) e in
      let q = or_false (bad_side first b) false p.1 in
      omega (arith, mul-le-mul (side_in first a p.0).narrow (last-cells b q.0))
  few_cells (a ∷ b ∷ c ∷ []) e f =
      let p = or_false (bad_side first a) (any_of (bad_side first) (b ∷ c ∷ [])) e in
      let q = or_false (bad_side first b) (any_of (bad_side first) (c ∷ [])) p.1 in
      let r = or_false (bad_side first c) false q.1 in
      omega (arith, mul-le-mul (side_in first a p.0).narrow (mul-le-mul (side_in first b q.0).narrow (last-cells c r.0)))
  few_cells (a ∷ b ∷ c ∷ d ∷ ds) e f = absurd (omega arith)

  -- the kernel's shape is one that a grid may have
  shape_in_lem : (sides : List ℕ) → any_of (bad_side first) sides ≡ false → 1 ≤ length sides → length sides ≤ 3 → bad_shape sides ≡ false
  unfolding bad_shape
  shape_in_lem sides e s f =
      or_no _ _
      (or_no _ _ (or_no _ _ (le-ltb (length sides) 1 s) (le-ltb 3 (length sides) f)) (none_any (outside 1 1024) sides (every_imp _ _ sides extent (any_none (bad_side first) sides e))))
      (le-ltb 8192 (cell_count sides) (omega (arith, few_cells sides e f)))
    where
      extent : (n : ℕ) → bad_side first n ≡ false → outside 1 1024 n ≡ false
      extent n h = let S = side_in first n h in or_no (ltb n 1) (ltb 1024 n) (le-ltb n 1 S.some) (le-ltb 1024 n (omega (arith, S.narrow)))

-- ---- the tests of condition 5, one after the other
module _ (ns sides : List ℕ) (count : ℕ) where
  pub axes_differ : (length sides ≡ length ns → ⊥) → true ≡ bad_kernel ns sides count
  unfolding bad_kernel
  axes_differ h = simp (ne_eqb (length sides) (length ns) h) refl

  module _ (h : length sides ≡ length ns) where
    pub side_differs : any_of (bad_side (side_of_lem sides)) sides ≡ true → true ≡ bad_kernel ns sides count
    unfolding bad_kernel
    side_differs t = simp (eq-eqb (length sides) (length ns) h, t) refl

    pub count_asked : bad_shape ns ≡ false → any_of (bad_side (side_of_lem sides)) sides ≡ false → {r : Bool} → r ≡ bad_length sides count → r ≡ bad_kernel ns sides count
    unfolding bad_kernel
    count_asked e t {r} q =
        let A = shape-accepted ns e in
        q ∙ ap (λ n. not (eqb count n)) (count_accepted sides (shape_in_lem (side_of_lem sides) sides t (omega (arith, A.some)) (omega (arith, A.few))))
        ∙ sym (λ j. not (eq-eqb (length sides) (length ns) h j) || t j || not (eqb count (cell_count sides)))

-- ---- an accepted kernel
pub record Equal (ns sides : List ℕ) (count : ℕ) : Type 0 where
  pub same : sides ≡ sides_of ns (side_of_lem sides)
  pub some : 0 < side_of_lem sides
  pub narrow : side_of_lem sides ≤ 7
  pub many : count ≡ cell_count sides
  pub few : count ≤ 343

pub kernel_equal : (ns sides : List ℕ) (count : ℕ) → bad_shape ns ≡ false → bad_kernel ns sides count ≡ false → Equal ns sides count
unfolding bad_kernel
kernel_equal ns sides count e h =
    let A = shape-accepted ns e in
    let p = or_false (not (eqb (length sides) (length ns)) || any_of (bad_side (side_of_lem sides)) sides) (not (eqb count (cell_count sides))) h in
    let q = or_false (not (eqb (length sides) (length ns))) (any_of (bad_side (side_of_lem sides)) sides) p.0 in
    let l = eqb-true (length sides) (length ns) (not-false (eqb (length sides) (length ns)) q.0) in
    let m = eqb-true count (cell_count sides) (not-false (eqb count (cell_count sides)) p.1) in
    let S = first_in_lem sides q.1 (omega (arith, A.some)) in record {
      same = all_equal (side_of_lem sides) sides q.1 ∙ ap (λ n. replicate n (side_of_lem sides)) l;
      some = S.some;
      narrow = S.narrow;
      many = m;
      few = omega (arith, m, few_cells (side_of_lem sides) sides q.1 (omega (arith, A.few)));
    }
  where
    first_in_lem : (l : List ℕ) → any_of (bad_side (side_of_lem l)) l ≡ false → 1 ≤ length l → Side (side_of_lem l) (side_of_lem l)
    first_in_lem [] t s = absurd (omega arith)
    first_in_lem (a ∷ l) t s = side_in a a (or_false (bad_side a a) (any_of (bad_side a) l) t).0
