-- `lanes_of` meets its contract: the count is 0 exactly where the shape is refused.
use mathlib.Core.Path.{◌≡◌, sym, subst, ◌∙◌}
use mathlib.Core.Bool.{false}
use mathlib.Core.List.{List}
use Prim.Native.Nat.{ℕ, ◌/◌, ◌≤◌, ◌<◌}
use native.Mathlib.Omega.{arith}
use Rattle.array_spec.specs.Conditions.{bad_shape, grid_count}
use Rattle.lanes.specs.declared.Lanes.{Lanes}
use Rattle.numbers.proofs.Tests.{cond_yes, cond_no}
use Rattle.array_spec.proofs.Places.{length_pos}
use Rattle.array_spec.proofs.Shapes.{shape-accepted, count_some, count_none, count_accepted}
use Rattle.lanes.proofs.lanes_of.Goals as goal

pub returns-then-cells-eq0 : goal.returns-then-cells-eq0
returns-then-cells-eq0 c = sym (cond_yes _ _ _ (count_none _ (sym c.cell_count-cells.ensures ∙ c.if-cells-eq0.true)))

accepted : (ns : List ℕ) (r : ℕ) → r ≡ grid_count ns → (r ≡ 0 → ⊥) → bad_shape ns ≡ false
accepted ns r e h = count_some ns (λ z. h (e ∙ z))

pub stride_of-stride-requires : goal.stride_of-stride-requires
stride_of-stride-requires c =
    let A = shape-accepted _ (accepted _ _ c.cell_count-cells.ensures c.if-cells-eq0.false) in
    (A.few, λ a. more _ (A.short a))
  where
    more : (n : ℕ) → n ≤ 1024 → n ≤ 1152
    more n h = omega arith

pub nonzero_div-result : goal.nonzero_div-result
nonzero_div-result c =
    let ns = c.args.shape.now in
    let a = c.args.axis in
    subst (λ (n : ℕ). 0 < n) (sym c.len_of-len.ensures) (length_pos ns a (shape-accepted ns (accepted ns _ c.cell_count-cells.ensures c.if-cells-eq0.false)
    ).full)

pub returns : goal.returns
returns c =
    let ns = c.args.shape.now in
    let g = accepted ns _ c.cell_count-cells.ensures c.if-cells-eq0.false in
    let e = c.len_of-len.ensures in
    let f = c.stride_of-stride.ensures in
    let h = c.cell_count-cells.ensures ∙ count_accepted ns g in
    let made : (n s k : ℕ) → Lanes = λ n s k. record { len = n; stride = s; count = k } in
    (λ i. made (e i) (f i) (h i / e i)) ∙ sym (cond_no _ _ _ g)
