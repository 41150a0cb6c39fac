-- How large the sums are: at most 8 by 8 by 8 terms, each a level of at most 2^31 − 1 times a weight of at most 65,535, so below 2^61.
-- Assumes nothing.
use mathlib.Core.Path.{◌≡◌, ap, ◌∙◌}
use mathlib.Core.Bool.{false}
use mathlib.Core.List.{List, [], ◌∷◌}
use Prim.Native.Nat.{ℕ, ◌+◌, ◌-◌, ◌*◌, ◌^◌, ◌≤◌}
use native.Mathlib.Nat.{mul-le-mul}
use native.Mathlib.Omega.{arith}
use lib.IntN.{ℤ, pos, neg_ℤ}
use Rattle.numbers.specs.Lists.{tabulate, any_of}
use Rattle.numbers.specs.Ranges.{outside_z}
use Rattle.numbers.proofs.Size.{Size, size_zero, size_le, tested_sized, inside_sized}
use Rattle.array_spec.proofs.Judged.{levels_sized}
use Rattle.border.specs.Border.{Border}
use Rattle.pad_line.proofs.Sizes.{constant_sized}
use Rattle.correlate_spec.proofs.Sizes.{size_summed}
use Rattle.correlate_spec.proofs.KernelSizes.{term_sized}
use Rattle.pad_line.proofs.EveryPadded.{any_table}
use Rattle.correlate_grid_axes.specs.declared.axes.Axis.{Axis}
use Rattle.correlate_grid_axes.specs.Axes.{KernelNeeds}
use Rattle.correlate_grid_row.specs.ByRows.{row_sum, rows_to}
use Rattle.correlate_grid_row.proofs.KernelRow.{side_few, kernel_few}

-- the size of one term
abbrev term : ℕ
term = (2 ^ 31 - 1) * 65535

module _ {b : Border ℤ} {x y z : Axis} {w cells : List ℤ} (L : KernelNeeds b x y z w cells) (r : ℕ) where
  row_size : (q i : ℕ) → Size (row_sum b x y z w cells r q i) (z.side * term)
  unfolding row_sum
  row_size q i =
      size_le (size_summed term 0 1 (pos 0) _ (size_zero _) (λ j. term_sized (2 ^ 31 - 1) 65535 b (constant_sized b L.level) w (tested_sized 65535 w L.weights) (x.len ∷ y.len ∷ z.len ∷ [])
      cells (levels_sized cells L.levels) _ (q * z.side + j)) z.side)
      (omega arith)

  rows_size : (q i : ℕ) → Size (rows_to b x y z w cells r q i) ((0 + q * z.side) * term)
  unfolding rows_to
  rows_size q i = size_summed term 0 z.side (pos 0) _ (size_zero _) (λ k. row_size k i) q

  -- what adding to the sums of the first q kernel rows supposes
  pub sums_small : (q n : ℕ) {out : List ℤ} → q ≤ x.side * y.side → out ≡ tabulate (rows_to b x y z w cells r q) 0 n → any_of (outside_z (neg_ℤ (pos (2 ^ 61))) (pos (2 ^ 61))) out ≡ false
  sums_small q n h e = ap (any_of _) e ∙ any_table _ (rows_to b x y z w cells r q) 0 n (λ i. inside_sized (2 ^ 61) (rows_to b x y z w cells r q i) (size_le (rows_size q i) bound))
    where
      many : q * z.side ≤ 64 * 8
      many = mul-le-mul {n₂ = 64} (omega (arith, kernel_few L)) (side_few z L.row.wide L.row.pads)

      bound : (0 + q * z.side) * term ≤ 2 ^ 61
      bound = omega (arith, many)
