-- The lanes of an axis of n cells that stand s places apart, over any element. The cell at place k is cell k / s % n of
-- lane lane_of n s k.
--   lane_of n s k             the lane that the cell at place k is on
--   lane_base n s l           the place of the first cell of lane l
--   lane_at d g at s n        the n cells of g from place at on, s apart; d where g has none
--   lane d n s l g           lane l of the grid g, as a line
--   with_lane d n s l line g  the grid g with the line written to lane l
--   lane_inside n s l count   whether lane l is inside a grid of that many cells, of at most 32,768
--   read_lane d s l g line    what reading lane l leaves in the line: nothing changes where the lane is not inside
--   lane_through d ns a g k   the lane along axis a through the cell at place k of a grid g of shape ns: the cells that
--                            differ
--                            from it in their coordinate on that axis alone
--   along_axis d f ns a g     f on every lane of axis a: each cell is the cell of f of its lane at its own coordinate
--   lanes_of ns a             length, stride and number of the lanes of axis a; all 0 where condition 1 holds
use Rattle.std.specs.Prelude.{ℕ, ◌+◌, ◌-◌, ◌*◌, ◌/◌, ◌%◌, Bool, ◌&&◌, cond, List, leb, ltb, eqb, length, get_or}
use Rattle.numbers.specs.Limits.{most_padded_cells}
use Rattle.numbers.specs.Lists.{tabulate}
use Rattle.array_spec.specs.Grid.{cell_count, length_of, stride_of, coordinate, moved, level_at}
use Rattle.array_spec.specs.Conditions.{bad_shape}
use Rattle.lanes.specs.declared.Lanes.{Lanes}

abbrev pub lane_of : ℕ → ℕ → ℕ → ℕ
lane_of n s k = k / (n * s) * s + k % s

abbrev pub lane_base : ℕ → ℕ → ℕ → ℕ
lane_base n s l = l / s * (n * s) + l % s

unfoldable pub lane_at : {A : Type 0} → A → List A → ℕ → ℕ → ℕ → List A
lane_at d g at s n = tabulate (λ i. get_or g (at + i * s) d) 0 n

abbrev pub lane : {A : Type 0} → A → ℕ → ℕ → ℕ → List A → List A
lane d n s l g = lane_at d g (lane_base n s l) s n

unfoldable pub with_lane : {A : Type 0} → A → ℕ → ℕ → ℕ → List A → List A → List A
with_lane d n s l line g = tabulate (λ k. cond (eqb (lane_of n s k) l) (get_or line (k / s % n) d) (get_or g k d)) 0
    (length g)

unfoldable pub lane_inside : ℕ → ℕ → ℕ → ℕ → Bool
lane_inside n s l count = leb count most_padded_cells && leb 1 n && leb 1 s && leb s count
    && ltb (lane_base n s l + (n - 1) * s) count

abbrev pub read_lane : {A : Type 0} → A → ℕ → ℕ → List A → List A → List A
read_lane d s l g line = cond (lane_inside (length line) s l (length g)) (lane d (length line) s l g) line

abbrev pub lane_through : {A : Type 0} → A → List ℕ → ℕ → List A → ℕ → List A
lane_through d ns a g k = tabulate (λ i. level_at d ns g (moved a i (coordinate ns k))) 0 (length_of ns a)

unfoldable pub along_axis : {A : Type 0} → A → (List A → List A) → List ℕ → ℕ → List A → List A
along_axis d f ns a g = tabulate (λ k. get_or (f (lane_through d ns a g k)) (coordinate ns k a) d) 0 (length g)

abbrev pub lanes_of : List ℕ → ℕ → Lanes
lanes_of ns a =
    cond (bad_shape ns) (record { len = 0; stride = 0; count = 0 })
    (record { len = length_of ns a; stride = stride_of ns a; count = cell_count ns / length_of ns a })
