-- A list of calls on a grid. le is the test of an order: ≤ for minimum calls, ≥ for maximum calls.
--   lane_level cells c k z   the level at coordinate z of the extended lane along the call's axis through the cell at
--                           place k
--   answer_of le cells c     what an accepted call fills: for each cell the first level, in the order, of its window
--   after le cells c        the levels after a call: what it filled, or as before where it was refused
--   run le cells calls      the levels after the list
--   numbers le cells calls  the numbers, as the calls get them in the run
--   accepted le cells calls the calls that the run accepts
use Rattle.std.specs.Prelude.{ℕ, Bool, cond, List, [], ◌∷◌, map, eqb, ℤ, pos, length}
use Rattle.numbers.specs.Lists.{tabulate}
use Rattle.numbers.specs.Order.{extreme}
use Rattle.array_spec.specs.Grid.{coordinate, moved, level_at}
use Rattle.border.specs.Border.{extended_lane}
use Rattle.min_max_spec.specs.Call.{Call, window, number_of, axis_length}

abbrev pub lane_level : List ℤ → Call → ℕ → ℤ → ℤ
lane_level cells c k z = extended_lane c.border (axis_length c)
    (λ i. level_at (pos 0) c.shape cells (moved c.axis i (coordinate c.shape k))) z

unfoldable pub answer_of : (ℤ → ℤ → Bool) → List ℤ → Call → List ℤ
answer_of le cells c =
    tabulate (λ k. extreme le (pos 0) (map (lane_level cells c k) (window c (pos (coordinate c.shape k c.axis)))))
    0 (length cells)

unfoldable pub after : (ℤ → ℤ → Bool) → List ℤ → Call → List ℤ
after le cells c = cond (eqb (number_of cells c) 0) (answer_of le cells c) cells

unfoldable pub run : (ℤ → ℤ → Bool) → List ℤ → List Call → List ℤ
run le cells [] = cells
run le cells (c ∷ cs) = run le (after le cells c) cs

unfoldable pub numbers : (ℤ → ℤ → Bool) → List ℤ → List Call → List ℕ
numbers le cells [] = []
numbers le cells (c ∷ cs) = number_of cells c ∷ numbers le (after le cells c) cs

unfoldable pub accepted : (ℤ → ℤ → Bool) → List ℤ → List Call → List Call
accepted le cells [] = []
accepted le cells (c ∷ cs) = cond (eqb (number_of cells c) 0) (c ∷ accepted le (after le cells c) cs)
    (accepted le (after le cells c) cs)
