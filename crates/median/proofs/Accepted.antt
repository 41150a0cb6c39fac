-- A mask that conditions 1, 2 and 4 accept: three axes of two cells or more, laid as the worker supposes, and the answer is the worker's.
-- Assumes nothing.
use mathlib.Core.Path.{◌≡◌, refl, sym, subst, ◌∙◌}
use mathlib.Core.Bool.{Bool, false, not}
use mathlib.Core.List.{List, [], ◌∷◌}
use Prim.Native.Nat.{ℕ, ◌*◌, ◌≤◌, ◌<◌}
use native.Mathlib.Nat.{mul-one, mul_assoc}
use native.Mathlib.Omega.{arith}
use borrow.Author.Tests.{eqb-true, eqb-false, not-false}
use lib.Dec.{eqb}
use lib.ListN.{length}
use Rattle.numbers.specs.Lists.{Every}
use Rattle.numbers.specs.Refusal.{refusal_of}
use Rattle.numbers.proofs.Any.{any_none}
use Rattle.numbers.proofs.Chain.{judged-all}
use Rattle.numbers.proofs.Tests.{or_false}
use Rattle.array_spec.specs.Conditions.{bad_shape}
use Rattle.array_spec.specs.Grid.{cell_count, length_of}
use Rattle.array_spec.proofs.Judged.{lengths_passed}
use Rattle.array_spec.proofs.Shapes.{Accepted, shape-accepted}
use Rattle.median_spec.specs.Around.{median_answer}
use Rattle.median_spec.specs.ByRows.{MaskNeeds}
use Rattle.median_spec.specs.Judge.{bad_single, median_judged}

-- ---- three axes
three_axes : (ns : List ℕ) → length ns ≡ 3 → ns ≡ length_of ns 0 ∷ length_of ns 1 ∷ length_of ns 2 ∷ []
three_axes [] e = absurd (omega arith)
three_axes (a ∷ []) e = absurd (omega arith)
three_axes (a ∷ b ∷ []) e = absurd (omega arith)
three_axes (a ∷ b ∷ c ∷ []) e = refl
three_axes (a ∷ b ∷ c ∷ d ∷ ds) e = absurd (omega arith)

some_two : (n : ℕ) → 0 < n → eqb n 1 ≡ false → 2 ≤ n
some_two n h e = more (eqb-false n 1 e)
  where
    more : (n ≡ 1 → ⊥) → 2 ≤ n
    more o = omega arith

laid-three : (a b c : ℕ) (mask : List Bool) → Accepted (a ∷ b ∷ c ∷ []) → length mask ≡ cell_count (a ∷ b ∷ c ∷ []) → bad_single (a ∷ b ∷ c ∷ []) ≡ false → MaskNeeds a b c mask
laid-three a b c mask A e s = record {
  some_planes = A.full.0;
  some_rows = A.full.1.0;
  two = some_two c A.full.1.1.0 last;
  short = A.short 2;
  count = e ∙ (λ i. a * (b * mul-one c i)) ∙ sym (mul_assoc a b c);
  small = omega (arith, A.small);
}
  where
    last : eqb c 1 ≡ false
    last = (any_none (λ n. eqb n 1) (a ∷ b ∷ c ∷ []) s).1.1.0

module _ (ns : List ℕ) (mask out : List Bool) (e : refusal_of (median_judged ns (length mask) (length out)) ≡ 0) where
  passed : Every (λ j. j.0 ≡ false) (median_judged ns (length mask) (length out))
  passed = judged-all (median_judged ns (length mask) (length out)) (tt, (tt, (tt, tt))) e

  shape : bad_shape ns ≡ false
  shape = (or_false (bad_shape ns) (not (eqb (length ns) 3)) passed.0).0

  axes : length ns ≡ 3
  axes = eqb-true (length ns) 3 (not-false (eqb (length ns) 3) (or_false (bad_shape ns) (not (eqb (length ns) 3)) passed.0).1)

  lent : Every (λ len. len ≡ cell_count ns) (length mask ∷ length out ∷ [])
  lent = lengths_passed ns (length mask ∷ length out ∷ []) shape passed.1.0

  -- what the worker supposes, from the lengths as the code read them
  module _ {a b c : ℕ} (ea : a ≡ length_of ns 0) (eb : b ≡ length_of ns 1) (ec : c ≡ length_of ns 2) where
    same : a ∷ b ∷ c ∷ [] ≡ ns
    same = (λ i. ea i ∷ eb i ∷ ec i ∷ []) ∙ sym (three_axes ns axes)

    pub mask_laid : MaskNeeds a b c mask × (length out ≡ length mask)
    mask_laid =
        let A = subst Accepted (sym same) (shape-accepted ns shape) in
        let l = subst (λ (s : List ℕ). length mask ≡ cell_count s) (sym same) lent.0 in
        let t = subst (λ (s : List ℕ). bad_single s ≡ false) (sym same) passed.1.1.0 in
        (laid-three a b c mask A l t, lent.1.0 ∙ sym lent.0)

    pub mask_answered : {left : List Bool} → left ≡ median_answer (a ∷ b ∷ c ∷ []) mask → left ≡ median_answer ns mask
    mask_answered q = q ∙ (λ i. median_answer (same i) mask)
