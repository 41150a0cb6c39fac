-- The sums taken row by row, on three axes x, y and z: kernel row q on row r of the grid.
--   three u v w          the coordinates u, v and w
--   row_for i j per none  the row of plane i and row j, with per rows in a plane; none where a source is −1
--   constant_of b         the border's constant; under another border it is never read
--   row_line b z none row cells       the row, padded; the constant all along where the row is none
--   row_start backward n a side       where the kernel row that starts at weight a in the direction starts among the
--                                    caller's n weights
--   line_sum b x y z w cells row q i  the sum of kernel row q on cell i, where it reads the row; none is the number of
--                                    rows
--   row_sum b x y z w cells r q i     the sum of kernel row q on cell i of row r
--   rows_to b x y z w cells r m i     the sum of the first m kernel rows
--   Mapped b x y z w cells first second    grid and kernel are laid on the axes, and the tables have the sources of
--                                          planes and rows
--   RowSumNeeds b x y z w cells r m line out   a row that holds the sums of the first m kernel rows on row r, and a buffer
--                                          as long as the padded row
--   Reading x y z row q line out           what one kernel row supposes: the row is in the grid or none, the buffers
--                                          are as long as the padded row and the row,
--                                          which holds at most 2^61 in size
use Rattle.std.specs.Prelude.{ℕ, zero, suc, ◌+◌, ◌-◌, ◌*◌, ◌^◌, ◌/◌, ◌%◌, ◌<◌, ◌≡◌, Bool, false, cond, List, [], ◌∷◌, eqb, ℤ, pos, negsuc, neg_ℤ, ◌+ℤ◌, ◌*ℤ◌, length, get_or, replicate}
use Rattle.numbers.specs.Lists.{tabulate, any_of}
use Rattle.numbers.specs.Ranges.{outside_z}
use Rattle.lanes.specs.Lanes.{lane}
use Rattle.border.specs.Border.{Border, constant, along, extended_grid}
use Rattle.pad_line.specs.Line.{padded_line}
use Rattle.correlate_spec.specs.Weighed.{summed}
use Rattle.correlate_grid_axes.specs.declared.axes.Axis.{Axis}
use Rattle.correlate_grid_axes.specs.Axes.{read_at, Found, KernelNeeds}

abbrev pub three : ℤ → ℤ → ℤ → ℕ → ℤ
three u v w zero = u
three u v w (suc zero) = v
three u v w (suc (suc a)) = w

abbrev pub row_for : ℤ → ℤ → ℕ → ℕ → ℕ
row_for (pos i) (pos j) per none = i * per + j
row_for (pos i) (negsuc j) per none = none
row_for (negsuc i) j per none = none

abbrev pub constant_of : Border ℤ → ℤ
constant_of (constant c) = c
constant_of (along m) = pos 0

unfoldable pub row_line : Border ℤ → Axis → ℕ → ℕ → List ℤ → List ℤ
row_line b z none row cells =
    cond (eqb row none) (replicate (z.left + z.len + z.right) (constant_of b))
    (padded_line (pos 0) b z.left z.right (lane (pos 0) z.len 1 row cells))

abbrev pub row_start : Bool → ℕ → ℕ → ℕ → ℕ
row_start backward n a side = cond backward (n - a - side) a

unfoldable pub line_sum : Border ℤ → Axis → Axis → Axis → List ℤ → List ℤ → ℕ → ℕ → ℕ → ℤ
line_sum b x y z w cells row q i =
    summed ◌+ℤ◌ (pos 0) (λ j. get_or (row_line b z (x.len * y.len) row cells) (i + j) (pos 0) *ℤ get_or w (q * z.side + j)
    (pos 0)) z.side

unfoldable pub row_sum : Border ℤ → Axis → Axis → Axis → List ℤ → List ℤ → ℕ → ℕ → ℕ → ℤ
row_sum b x y z w cells r q i =
    summed ◌+ℤ◌ (pos 0)
    (λ j. extended_grid (pos 0) b (x.len ∷ y.len ∷ z.len ∷ []) cells
    (three (read_at x (r / y.len) (q / y.side)) (read_at y (r % y.len) (q % y.side)) (read_at z i j)) *ℤ get_or w
    (q * z.side + j) (pos 0))
    z.side

unfoldable pub rows_to : Border ℤ → Axis → Axis → Axis → List ℤ → List ℤ → ℕ → ℕ → ℕ → ℤ
rows_to b x y z w cells r m i = summed ◌+ℤ◌ (pos 0) (λ q. row_sum b x y z w cells r q i) m

pub record Mapped (b : Border ℤ) (x y z : Axis) (w cells first second : List ℤ) : Type 0 where
  pub laid : KernelNeeds b x y z w cells
  pub planes : Found b x first
  pub rows : Found b y second

pub record RowSumNeeds (b : Border ℤ) (x y z : Axis) (w cells : List ℤ) (r m : ℕ) (line out : List ℤ) : Type 0 where
  pub line_long : length line ≡ z.left + z.len + z.right
  pub sums : out ≡ tabulate (rows_to b x y z w cells r m) 0 z.len

pub record Reading (x y z : Axis) (row q : ℕ) (line out : List ℤ) : Type 0 where
  pub inside : (row ≡ x.len * y.len → ⊥) → row < x.len * y.len
  pub kernel : q < x.side * y.side
  pub line_long : length line ≡ z.left + z.len + z.right
  pub out_long : length out ≡ z.len
  pub small : any_of (outside_z (neg_ℤ (pos (2 ^ 61))) (pos (2 ^ 61))) out ≡ false
