-- A product of a level and a weight fits 64 bits, and one weight's answer is every cell times it.
-- Assumes nothing.
use mathlib.Core.Path.{◌≡◌, sym, ap, ◌∙◌}
use mathlib.Core.Bool.{Bool}
use mathlib.Core.List.{List, map}
use Prim.Native.Nat.{ℕ}
use native.Mathlib.Omega.{arith}
use borrow.Author.Tests.{eq-eqb}
use lib.Dec.{eqb}
use lib.IntN.{ℤ, pos, ◌*ℤ◌}
use lib.ListN.{length, get_or}
use Rattle.numbers.proofs.Size.{Size, size_inside, size_mul, member_sized, tested_sized}
use Rattle.numbers.proofs.Tests.{cond_yes}
use Rattle.array_spec.specs.Conditions.{bad_level}
use Rattle.border.specs.Border.{Border}
use Rattle.symmetry_spec.specs.declared.SymmetryState.{SymmetryState}
use Rattle.direction.specs.Direction.{directed}
use Rattle.direction.proofs.Directed.{directed-one}
use Rattle.correlate_spec.specs.Weighed.{Ops}
use Rattle.correlate_spec.specs.Correlated.{correlated_by}
use Rattle.correlate_judge_spec.specs.Judge.{bad_weight}
use Rattle.correlate_spec.proofs.Computed.{Computed, read, computed, computed_level}
use Rattle.correlate1d.specs.WeighNeeds.{ScaleNeeds}

-- the product as the machine computes it
pub scaled : {cells out : List ℤ} {w : ℤ} → ScaleNeeds cells w out → (i : ℕ) → Computed (read (get_or cells i (pos 0)) *ℤ read w) (get_or cells i (pos 0) *ℤ w)
unfolding bad_level bad_weight
scaled {cells} {out} {w} S i =
    let a : Size (get_or cells i (pos 0)) 2147483647 = member_sized 2147483647 cells (tested_sized 2147483647 cells S.levels) i in
    let b : Size w 65535 = size_inside 65535 w S.weight in
    computed ◌*ℤ◌ (computed_level a (omega arith)) (computed_level b (omega arith)) (size_mul a b) (omega arith)

-- ---- one weight, over any element and in either direction: every cell times it
module _ {A : Type 0} (ops : Ops A) (b : Border A) where
  pub one-weight : (class : SymmetryState) (o : ℤ) (backward : Bool) (w : List A) (ns : List ℕ) (a : ℕ) (cells : List A) → length w ≡ 1
      → map (λ x. ops.product x (get_or w 0 ops.past)) cells ≡ correlated_by ops class b o (directed backward w) ns a cells
  unfolding correlated_by
  one-weight class o backward w ns a cells e =
      sym (cond_yes (eqb (length w) 1) _ _ (eq-eqb (length w) 1 e)) ∙ ap (λ (v : List A). correlated_by ops class b o v ns a cells) (sym (directed-one backward w e))
