-- The size of a partial sum of whole numbers: at most the number of cells read so far, times the greatest cell, times the greatest weight.
-- Assumes nothing.
use Prim.Native.Nat.{ℕ, zero, suc, ◌+◌, ◌*◌}
use mathlib.Core.List.{List}
use native.Mathlib.Nat.{suc-mul, add-mul}
use native.Mathlib.Omega.{arith}
use lib.IntN.{ℤ, pos, ◌+ℤ◌, ◌*ℤ◌}
use lib.ListN.{get_or}
use Rattle.numbers.proofs.Size.{Size, size_zero, size_add, size_mul, size_le}
use Rattle.correlate_spec.specs.Weighed.{summed, whole_ops, cell_term, plain_to}

-- b cells are read for the start and c for each term; each of them adds at most r to the size
pub size_summed : (r b c : ℕ) (a : ℤ) (f : ℕ → ℤ) → Size a (b * r) → ((k : ℕ) → Size (f k) (c * r)) → (n : ℕ) → Size (summed ◌+ℤ◌ a f n) ((b + n * c) * r)
unfolding summed
size_summed r b c a f h g zero = size_le h (omega (arith, add-mul b (0 * c) r))
size_summed r b c a f h g (suc n) =
    size_le (size_add (size_summed r b c a f h g n) (g n)) (omega (arith, add-mul b (n * c) r, add-mul b (suc n * c) r, suc-mul n c, add-mul (n * c) c r))

module _ (p q : ℕ) (w s : List ℤ) (cells : (k : ℕ) → Size (get_or s k (pos 0)) p) (weights : (k : ℕ) → Size (get_or w k (pos 0)) q) where
  -- any cell times any weight
  pub size_cell : (a k : ℕ) → Size (get_or s a (pos 0) *ℤ get_or w k (pos 0)) (1 * (p * q))
  size_cell a k = size_le (size_mul (cells a) (weights k)) (omega arith)

  pub size_plain : (n i : ℕ) → Size (plain_to whole_ops w s n i) ((0 + n * 1) * (p * q))
  size_plain n i = size_summed (p * q) 0 1 (pos 0) (cell_term whole_ops w s i) (size_zero _) (λ j. size_cell (i + j) j) n
