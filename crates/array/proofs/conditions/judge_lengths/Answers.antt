-- `judge_lengths` meets its contract: each return has the answers of the conditions on its way, by the count that condition 2 compares with.
use mathlib.Core.Path.{◌≡◌, sym, ap, ◌∙◌}
use mathlib.Core.Bool.{Bool, true, false, not}
use mathlib.Core.List.{List}
use Prim.Native.Nat.{ℕ}
use borrow.Author.Tests.{eq-eqb, ne_eqb}
use lib.Dec.{eqb}
use Rattle.numbers.specs.Lists.{any_of}
use Rattle.numbers.proofs.Tests.{condition_is}
use Rattle.array_spec.specs.Conditions.{bad_shape, grid_count, bad_length}
use Rattle.array_spec.proofs.Shapes.{count_none, count_some}
use Rattle.array.proofs.conditions.judge_lengths.Goals as goal

-- the conditions by the count, which the code has found to be the shape's
module _ (ns : List ℕ) {count : ℕ} (e : count ≡ grid_count ns) where
  shape-out : count ≡ 0 → bad_shape ns ≡ true
  shape-out z = count_none ns (sym e ∙ z)

  shape_in_lem : (count ≡ 0 → ⊥) → bad_shape ns ≡ false
  shape_in_lem h = count_some ns (λ z. h (e ∙ z))

  length-out : (len : ℕ) → (len ≡ count → ⊥) → bad_length ns len ≡ true
  length-out len h = ap not (ne_eqb len (grid_count ns) (λ z. h (z ∙ sym e)))

  length-in : (len : ℕ) → len ≡ count → bad_length ns len ≡ false
  length-in len z = ap not (eq-eqb len (grid_count ns) (z ∙ e))

  lengths_are : (lent : List ℕ) {r t : Bool} → r ≡ any_of (λ len. not (eqb len count)) lent → r ≡ t → any_of (bad_length ns) lent ≡ t
  lengths_are lent f h = condition_is (f ∙ ap (λ n. any_of (λ len. not (eqb len n)) lent) e) h

pub returns-then-count-eq0 : goal.returns-then-count-eq0
returns-then-count-eq0 c =
    let ns = c.args.shape.now in
    simp (shape-out ns c.cell_count-count.ensures c.if-count-eq0.true)

pub returns-then-len-count : goal.returns-then-len-count
returns-then-len-count c =
    let a = c.args in
    let e = c.cell_count-count.ensures in
    simp (shape_in_lem a.shape.now e c.if-count-eq0.false, length-out a.shape.now e a.len c.if-len-count.true)

pub returns-then-any_other : goal.returns-then-any_other
returns-then-any_other c =
    let a = c.args in
    let e = c.cell_count-count.ensures in
    simp (
      shape_in_lem a.shape.now e c.if-count-eq0.false,
      length-in a.shape.now e a.len c.if-len-count.false,
      lengths_are a.shape.now e a.lent.now c.any_other.ensures c.if-any_other.true,
    )

pub returns : goal.returns
returns c =
    let a = c.args in
    let e = c.cell_count-count.ensures in
    simp (
      shape_in_lem a.shape.now e c.if-count-eq0.false,
      length-in a.shape.now e a.len c.if-len-count.false,
      lengths_are a.shape.now e a.lent.now c.any_other.ensures c.if-any_other.false,
    )
