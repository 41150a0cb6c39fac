-- The counts taken row by row: of every place along a row how many of the rows around it are true there, then the
-- neighbours along the row.
--   span_of n i              around n i, as the code has it: its first coordinate, and the one past its last
--   cell_of mask rows n x y z    1 where cell z of row y of plane x is true, else 0; rows to a plane, n cells to a row
--   plane_count ..           of rows ys of plane x, how many are true at place z
--   column_count ..          of rows ys of planes xs, how many are true at place z
--   MaskRowNeeds mask n last     the mask has `last` rows of n cells, one or more, and at most 8,192 cells
--   Room g counts           g fits into the counts: no sum is over 255
--   added g counts          the counts, each with g of its place added
--   voted_at counts m i      whether cell i is true: the counts of its m rows around, over cell i and its neighbours
--                           along the row
--   Counted counts m        the counts of one to nine rows around, along a row of two cells or more
--   in_row a n k             whether k is one of the n places from a on
--   set_row a n f held       the cells held, with f of its place on the n places from a on
--   median_of_place planes rows n mask k   the median of the cell at place k
--   Blank counts            every count is 0
--   MaskNeeds planes rows n mask     the mask has planes of rows of n cells, two or more, and at most 8,192 in all
use Rattle.std.specs.Prelude.{ℕ, ◌+◌, ◌-◌, ◌*◌, ◌/◌, ◌≤◌, ◌<◌, min, ◌≡◌, Bool, false, not, ◌&&◌, cond, List, [], ◌∷◌, ltb, length, get_or}
use Rattle.numbers.specs.Lists.{tabulate}
use Rattle.array_spec.specs.Grid.{coordinate}
use Rattle.median_spec.specs.declared.Span.{Span}
use Rattle.median_spec.specs.Around.{up_to, around, total, one, median_at}

abbrev pub span_of : ℕ → ℕ → Span
span_of n i = record { from = i - 1; to = min (i + 2) n }

abbrev pub cell_of : List Bool → ℕ → ℕ → ℕ → ℕ → ℕ → ℕ
cell_of mask rows n x y z = one (get_or mask ((x * rows + y) * n + z) false)

abbrev pub plane_count : List Bool → ℕ → ℕ → Span → ℕ → ℕ → ℕ
plane_count mask rows n ys x z = total (λ y. cell_of mask rows n x y z) (up_to ys.from ys.to)

abbrev pub column_count : List Bool → ℕ → ℕ → Span → Span → ℕ → ℕ
column_count mask rows n xs ys z = total (λ x. plane_count mask rows n ys x z) (up_to xs.from xs.to)

pub record MaskRowNeeds (mask : List Bool) (n last : ℕ) : Type 0 where
  pub some : 1 ≤ n
  pub small : length mask ≤ 8192
  pub reach : last * n ≤ length mask

abbrev pub Room : (ℕ → ℕ) → List ℕ → Type 0
Room g counts = (z : ℕ) → z < length counts → get_or counts z 0 + g z ≤ 255

abbrev pub added : (ℕ → ℕ) → List ℕ → List ℕ
added g counts = tabulate (λ z. get_or counts z 0 + g z) 0 (length counts)

abbrev pub voted_at : List ℕ → ℕ → ℕ → Bool
voted_at counts m i = let s = around (length counts) i in ltb ((m * length s - 1) / 2) (total (λ z. get_or counts z 0) s)

pub record Counted (counts : List ℕ) (m : ℕ) : Type 0 where
  pub two : 2 ≤ length counts
  pub short : length counts ≤ 1024
  pub some : 1 ≤ m
  pub few : m ≤ 9
  pub small : (z : ℕ) → get_or counts z 0 ≤ 9

abbrev pub in_row : ℕ → ℕ → ℕ → Bool
in_row a n k = not (ltb k a) && ltb k (a + n)

abbrev pub set_row : ℕ → ℕ → (ℕ → Bool) → List Bool → List Bool
set_row a n f held = tabulate (λ k. cond (in_row a n k) (f k) (get_or held k false)) 0 (length held)

abbrev pub median_of_place : ℕ → ℕ → ℕ → List Bool → ℕ → Bool
median_of_place planes rows n mask k = median_at (planes ∷ rows ∷ n ∷ []) mask (coordinate (planes ∷ rows ∷ n ∷ []) k)

pub record Blank (counts : List ℕ) : Type 0 where
  pub zero : (z : ℕ) → get_or counts z 0 ≡ 0

pub record MaskNeeds (planes rows n : ℕ) (mask : List Bool) : Type 0 where
  pub some_planes : 1 ≤ planes
  pub some_rows : 1 ≤ rows
  pub two : 2 ≤ n
  pub short : n ≤ 1024
  pub count : length mask ≡ planes * rows * n
  pub small : length mask ≤ 8192
