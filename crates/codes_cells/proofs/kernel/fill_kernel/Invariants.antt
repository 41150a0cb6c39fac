-- `fill_kernel` meets its contract: the cells are stored from the front, each as the kernel has it.
use mathlib.Core.Path.{◌≡◌}
use mathlib.Core.Bool.{Bool, false}
use mathlib.Core.List.{List, []}
use Prim.Native.Nat.{ℕ, ◌/◌, ◌%◌}
use lib.Dec.{ltb}
use lib.ListN.{length, get_or}
use Rattle.numbers.proofs.Stored.{Stored}
use Rattle.codes_cells.proofs.kernel.fill_kernel.Given as goal

-- cell j of a kernel, the last axis fastest
abbrev pub cell_of : List (List (List Bool)) → ℕ → Bool
cell_of s j = get_or (get_or (get_or s (j / 9) []) (j / 3 % 3) []) (j % 3) false

abbrev pub invariant-loop-i : goal.invariant-loop-i
invariant-loop-i l = (length l.initial.out ≡ 27) × Stored false (λ j. ltb j l.i) (cell_of l.cells) l.initial.out l.out
