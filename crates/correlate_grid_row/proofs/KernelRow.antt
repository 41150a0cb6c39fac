-- One kernel row on a row of the grid: its weights are a part of the kernel's, the row that it reads is in the grid, and the sums of the padded row are added.
-- Assumes nothing.
use mathlib.Core.Path.{◌≡◌, sym, ap, subst, ◌∙◌}
use mathlib.Core.Bool.{Bool, true, false}
use mathlib.Core.List.{List}
use Prim.Native.Nat.{ℕ, ◌+◌, ◌-◌, ◌*◌, ◌≤◌, ◌<◌}
use native.Mathlib.Nat.{mul-le-mul, le_refl}
use native.Mathlib.Omega.{arith}
use lib.IntN.{ℤ, pos, ◌+ℤ◌, ◌*ℤ◌}
use lib.ListN.{length, get_or, take, drop, length-take, length-drop}
use lib.Seq.{get_or-take, get_or-drop}
use Rattle.numbers.specs.Lists.{tabulate}
use Rattle.numbers.proofs.Any.{any_none, none_any, every_drop, every_take}
use Rattle.numbers.proofs.Tabulate.{tabulate_agree}
use Rattle.lanes.proofs.Cells.{step_le}
use Rattle.border.specs.Border.{Border}
use Rattle.direction.specs.Direction.{directed}
use Rattle.direction.proofs.Directed.{directed-part}
use Rattle.correlate_spec.specs.Weighed.{summed}
use Rattle.correlate_spec.proofs.Summed.{summed_agree}
use Rattle.correlate_plain.specs.Added.{added_to, AddNeeds}
use Rattle.correlate_grid_axes.specs.declared.axes.Axis.{Axis}
use Rattle.correlate_grid_axes.specs.Axes.{KernelNeeds}
use Rattle.correlate_grid_row.specs.ByRows.{row_line, row_start, line_sum, Reading}
use Rattle.correlate_grid_row.proofs.RowLine.{row_weighable}

-- ---- how many rows and weights there are
pub side_few : (a : Axis) → a.side ≤ a.left + a.right + 1 → a.left + a.right ≤ 7 → a.side ≤ 8
side_few a h l = omega arith

module _ {b : Border ℤ} {x y z : Axis} {w cells : List ℤ} (L : KernelNeeds b x y z w cells) where
  pub rows_few : x.len * y.len ≤ 8192
  rows_few = omega (arith, mul-le-mul (le_refl (x.len * y.len)) L.row.some, L.count, L.small)

  pub kernel_few : x.side * y.side ≤ 8 * 8
  kernel_few = mul-le-mul (side_few x L.planes.wide L.planes.pads) (side_few y L.rows.wide L.rows.pads)

  pub weights_few : length w ≤ 512
  weights_few = omega (arith, L.many, mul-le-mul kernel_few (side_few z L.row.wide L.row.pads))

  module _ {row q : ℕ} {line out : List ℤ} (R : Reading x y z row q line out) where
    pub row_in : (row ≡ x.len * y.len → ⊥) → row * z.len + z.len ≤ length cells
    row_in o = omega (arith, step_le z.len (R.inside o), L.count)

    -- ---- the weights of the kernel row: in the direction those from q * z.side on, among the caller's those from a on
    pub weights_in_lem : q * z.side + z.side ≤ length w
    weights_in_lem = omega (arith, step_le z.side R.kernel, L.many)

    module _ (backward : Bool) {a : ℕ} (f : a ≡ row_start backward (length w) (q * z.side) z.side) where
      pub part_in_lem : a + z.side ≤ length w
      part_in_lem = subst (λ (k : ℕ). k + z.side ≤ length w) (sym f) (go backward)
        where
          go : (t : Bool) → row_start t (length w) (q * z.side) z.side + z.side ≤ length w
          go true = omega (arith, weights_in_lem)
          go false = weights_in_lem

      abbrev weights_of : List ℤ
      weights_of = take (a + z.side - a) (drop a w)

      weights_many : length weights_of ≡ z.side
      weights_many = simp (length-take, length-drop) (omega (arith, part_in_lem))

      weights_are : directed backward weights_of ≡ take z.side (drop (q * z.side) (directed backward w))
      weights_are = (λ t. directed backward (take (long t) (drop (f t) w))) ∙ directed-part backward w (q * z.side) z.side weights_in_lem
        where
          long : a + z.side - a ≡ z.side
          long = omega arith

      weight_is : (j : ℕ) → j < z.side → get_or (directed backward weights_of) j (pos 0) ≡ get_or (directed backward w) (q * z.side + j) (pos 0)
      weight_is j h =
          ap (λ (l : List ℤ). get_or l j (pos 0)) weights_are
          ∙ get_or-take z.side (drop (q * z.side) (directed backward w)) j (pos 0) h ∙ get_or-drop (q * z.side) (directed backward w) j (pos 0)

      -- ---- s is the padded row
      module _ {s : List ℤ} (e : s ≡ row_line b z (x.len * y.len) row cells) where
        pub row_addable : AddNeeds weights_of s out
        row_addable = record {
          line =
              row_weighable L (x.len * y.len) row weights_of s (length out) weights_many
              (none_any _ weights_of (every_take _ (drop a w) (a + z.side - a) (every_drop _ w a (any_none _ w L.weights)))) e R.out_long;
          small = R.small;
        }

        line-sum : (i : ℕ)
            → summed ◌+ℤ◌ (pos 0) (λ j. get_or s (i + j) (pos 0) *ℤ get_or (directed backward weights_of) j (pos 0)) (length weights_of) ≡ line_sum b x y z (directed backward w) cells row q i
        unfolding line_sum
        line-sum i = ap (summed ◌+ℤ◌ (pos 0) _) weights_many ∙ summed_agree ◌+ℤ◌ (pos 0) _ _ z.side (λ j l k. get_or (e k) (i + j) (pos 0) *ℤ weight_is j l k)

        pub row_added : {new : List ℤ} → new ≡ tabulate (added_to out (directed backward weights_of) s (length weights_of)) 0 (length out)
            → new ≡ tabulate (λ i. get_or out i (pos 0) +ℤ line_sum b x y z (directed backward w) cells row q i) 0 z.len
        row_added g = g ∙ ap (tabulate _ 0) R.out_long ∙ tabulate_agree _ _ 0 z.len (λ i h. ap (λ (v : ℤ). get_or out (0 + i) (pos 0) +ℤ v) (line-sum (0 + i)))
