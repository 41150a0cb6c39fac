-- How large the cells and weights are that a loop along a row reads, whichever they are.
-- Assumes nothing.
use Prim.Native.Nat.{ℕ, ◌^◌}
use mathlib.Core.Path.{◌≡◌, sym, subst}
use mathlib.Core.List.{List}
use lib.IntN.{ℤ, pos}
use lib.ListN.{get_or}
use Rattle.numbers.proofs.Size.{Size, member_sized, tested_sized}
use Rattle.correlate_spec.specs.Sizes.{LineSumNeeds}

-- a row of as many cells
pub weighable_kept : {w s : List ℤ} {n m : ℕ} → m ≡ n → LineSumNeeds w s n → LineSumNeeds w s m
weighable_kept {w} {s} e W = subst (LineSumNeeds w s) (sym e) W

module _ {w s : List ℤ} {n : ℕ} (W : LineSumNeeds w s n) where
  pub cell_size : (k : ℕ) → Size (get_or s k (pos 0)) (2 ^ 38)
  cell_size k = member_sized (2 ^ 38) s (tested_sized (2 ^ 38) s W.cells) k

  pub weight_size : (k : ℕ) → Size (get_or w k (pos 0)) 65535
  weight_size k = member_sized 65535 w (tested_sized 65535 w W.weights) k
