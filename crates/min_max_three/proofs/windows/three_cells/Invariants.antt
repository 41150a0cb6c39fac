-- `three_cells` meets its contract: the cells are filled from the front, each with the first of its three. x0 and x1 are the first two cells of the
-- window that is next. Assumes nothing.
use mathlib.Core.Path.{◌≡◌}
use Prim.Native.Nat.{◌+◌}
use lib.Dec.{ltb}
use lib.IntN.{pos}
use lib.ListN.{get_or}
use Rattle.numbers.specs.Order.{extreme}
use Rattle.numbers.specs.Windows.{window_of}
use Rattle.numbers.proofs.Stored.{Stored}
use Rattle.min_max_ring.specs.Extremes.{order_by}
use Rattle.min_max_three.proofs.windows.three_cells.Given as goal

abbrev pub invariant-loop-i : goal.invariant-loop-i
invariant-loop-i l =
    (l.x0 ≡ get_or l.line l.i (pos 0)) × (l.x1 ≡ get_or l.line (l.i + 1) (pos 0))
    × Stored (pos 0) (λ k. ltb k l.i) (λ k. extreme (order_by l.greatest) (pos 0) (window_of l.line k 3)) l.initial.out l.out
