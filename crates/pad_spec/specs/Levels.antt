-- The level at each place of a padded grid, from NumPy's page on `pad`: axes are filled in rising order, later axes
-- reading what earlier ones filled.
--   level_to mode ns lefts cells d q     the level at padded coordinates q once axes 0 to d − 1 are filled; at first it
--                                       is the grid's own
--   own_cells mode ns lefts cells d q    the lane's own cells on axis d through q, as the axes before d left them
--   padded_level mode ns lefts rights cells k    the level at place k of the padded grid, all axes filled
--   padded_grid mode ns lefts rights cells       what `pad` leaves
--   keeps_rim mode                       whether `pad_to` writes the middle only: under Constant
--   padded_over mode ns lefts rights cells held  what `pad_to` leaves in a grid that held `held`
use Rattle.std.specs.Prelude.{ℕ, zero, suc, ◌+◌, ◌-◌, Bool, true, ◌&&◌, not, cond, List, ℤ, pos, length, get_or}
use Rattle.numbers.specs.Lists.{tabulate}
use Rattle.array_spec.specs.Grid.{cell_count, length_of, coordinate, moved, level_at}
use Rattle.border.specs.declared.PadMode.{PadMode}
use Rattle.pad_line.specs.Line.{padded_at}
use Rattle.pad_spec.specs.Fill.{filler_of, rim_of, carries}
use Rattle.pad_spec.specs.Pads.{padded_shape, middle_from}

unfoldable pub level_to : PadMode → List ℕ → List ℕ → List ℤ → ℕ → (ℕ → ℕ) → ℤ
level_to mode ns lefts cells zero q = level_at (pos 0) ns cells (λ a. q a - get_or lefts a 0)
level_to mode ns lefts cells (suc d) q =
    let own = tabulate (λ i. level_to mode ns lefts cells d (moved d (get_or lefts d 0 + i) q)) 0 (length_of ns d) in
    padded_at (pos 0) (rim_of mode own) (get_or lefts d 0) own (q d)

abbrev pub own_cells : PadMode → List ℕ → List ℕ → List ℤ → ℕ → (ℕ → ℕ) → List ℤ
own_cells mode ns lefts cells d q = tabulate (λ i. level_to mode ns lefts cells d (moved d (get_or lefts d 0 + i) q)) 0
    (length_of ns d)

abbrev pub padded_level : PadMode → List ℕ → List ℕ → List ℕ → List ℤ → ℕ → ℤ
padded_level mode ns lefts rights cells k = level_to mode ns lefts cells (length ns)
    (coordinate (padded_shape ns lefts rights) k)

unfoldable pub padded_grid : PadMode → List ℕ → List ℕ → List ℕ → List ℤ → List ℤ
padded_grid mode ns lefts rights cells = tabulate (padded_level mode ns lefts rights cells) 0
    (cell_count (padded_shape ns lefts rights))

abbrev pub keeps_rim : PadMode → Bool
keeps_rim mode = carries (λ c. true) (filler_of mode)

unfoldable pub padded_over : PadMode → List ℕ → List ℕ → List ℕ → List ℤ → List ℤ → List ℤ
padded_over mode ns lefts rights cells held =
    let ps = padded_shape ns lefts rights in
    tabulate (λ k. cond (keeps_rim mode && not (middle_from ns lefts 0 (coordinate ps k))) (get_or held k (pos 0))
    (padded_level mode ns lefts rights cells k)) 0 (cell_count ps)
