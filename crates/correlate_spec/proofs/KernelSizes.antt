-- The size of a grid kernel's sums: at most the number of weights, times the greatest level, times the greatest weight.
-- Assumes nothing.
use Prim.Native.Nat.{ℕ, ◌+◌, ◌*◌, ◌^◌, ◌<◌}
use mathlib.Core.Path.{◌≡◌, sym, subst}
use mathlib.Core.Bool.{false}
use mathlib.Core.List.{List}
use native.Mathlib.Omega.{arith}
use lib.IntN.{ℤ, pos, nat_abs, ◌*ℤ◌}
use lib.ListN.{length, get_or}
use Rattle.numbers.specs.Lists.{any_of}
use Rattle.numbers.specs.Ranges.{beyond}
use Rattle.numbers.proofs.Any.{none_any, every_imp}
use Rattle.numbers.proofs.Size.{Size, Sized, size_zero, size_mul, size_le, member_sized, beyond_sized}
use Rattle.numbers.proofs.Tabulate.{every_table}
use Rattle.numbers.proofs.Tests.{cond_ind}
use Rattle.array_spec.specs.Grid.{cell_count, length_of, place_of, coordinate}
use Rattle.border.specs.Border.{Border, constant, along, cell_for, all_inside, extended_grid}
use Rattle.border.proofs.OneBorder.{under_constant, under_cells}
use Rattle.pad_line.proofs.Sizes.{SizedBorder}
use Rattle.correlate_spec.specs.Kernel.{kernel_sum, kernel_answer}
use Rattle.correlate_spec.proofs.Sizes.{size_summed}

-- a level of the extended grid
pub extended_sized : (p : ℕ) (b : Border ℤ) → SizedBorder p b → (ns : List ℕ) (cells : List ℤ) → Sized p cells → (q : ℕ → ℤ) → Size (extended_grid (pos 0) b ns cells q) p
extended_sized p (constant c) r ns cells h q =
    subst (λ z. Size z p) (sym (under_constant (pos 0) c ns cells q))
    (cond_ind (all_inside ns q) (get_or cells (place_of ns (λ a. nat_abs (q a))) (pos 0)) c (λ z. Size z p)
    (λ t. member_sized p cells h (place_of ns (λ a. nat_abs (q a)))) (λ t. r))
extended_sized p (along m) r ns cells h q = subst (λ z. Size z p) (sym (under_cells (pos 0) m ns cells q)) (member_sized p cells h (place_of ns (λ a. cell_for m (length_of ns a) (q a))))

module _ (p q : ℕ) (b : Border ℤ) (r : SizedBorder p b) (w : List ℤ) (k : Sized q w) (ns : List ℕ) (cells : List ℤ) (h : Sized p cells) where
  -- one term of a sum
  pub term_sized : (at : ℕ → ℤ) (j : ℕ) → Size (extended_grid (pos 0) b ns cells at *ℤ get_or w j (pos 0)) (1 * (p * q))
  term_sized at j = size_le (size_mul (extended_sized p b r ns cells h at) (member_sized q w k j)) (omega arith)

  sum_sized : (left : ℕ) (sides : List ℕ) (c : ℕ → ℕ) → Size (kernel_sum b left sides w ns cells c) ((0 + length w * 1) * (p * q))
  unfolding kernel_sum
  sum_sized left sides c = size_summed (p * q) 0 1 (pos 0) _ (size_zero _) (λ j. term_sized _ j) (length w)

  answer_sized : (left : ℕ) (sides : List ℕ) → Sized ((0 + length w * 1) * (p * q)) (kernel_answer b left sides w ns cells)
  unfolding kernel_answer
  answer_sized left sides =
      every_table (λ x. Size x ((0 + length w * 1) * (p * q))) (λ j. kernel_sum b left sides w ns cells (coordinate ns j)) 0 (cell_count ns) (λ j. sum_sized left sides (coordinate ns j))

  -- no sum leaves 64 bits
  pub kernel_within : (left : ℕ) (sides : List ℕ) → (0 + length w * 1) * (p * q) < 2 ^ 63 → any_of beyond (kernel_answer b left sides w ns cells) ≡ false
  kernel_within left sides l =
      let x = kernel_answer b left sides w ns cells in
      none_any beyond x (every_imp (λ y. Size y ((0 + length w * 1) * (p * q))) _ x (λ y s. beyond_sized y s l) (answer_sized left sides))
