-- `fill_kernel` meets its contract: the levels are stored from the front, each as the kernel's cell says.
use mathlib.Core.Bool.{Bool, false}
use mathlib.Core.List.{List, []}
use Prim.Native.Nat.{ℕ, ◌/◌, ◌%◌}
use lib.Dec.{ltb}
use lib.IntN.{pos}
use lib.ListN.{get_or}
use Rattle.numbers.proofs.Stored.{Stored}
use Rattle.ndimage_arguments.specs.Arguments.{level_of_mark}
use Rattle.ndimage_arguments.proofs.fill_kernel.Given as goal

-- cell j of a kernel, the last axis fastest
abbrev pub cell_of : List (List (List Bool)) → ℕ → Bool
cell_of s j = get_or (get_or (get_or s (j / 9) []) (j / 3 % 3) []) (j % 3) false

abbrev pub invariant-loop-i : goal.invariant-loop-i
invariant-loop-i l = Stored (pos 0) (λ j. ltb j l.i) (λ j. level_of_mark (cell_of l.cells j)) l.initial.levels l.levels
