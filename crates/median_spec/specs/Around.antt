-- The median of a mask of three axes, from document 01 and SciPy's page on `median_filter`. SciPy extends the grid at
-- the border; the Rust takes only the neighbours inside the grid, and so does this.
--   up_to lo hi           lo, lo + 1, .., hi − 1
--   around n i           the coordinates of cell i and its neighbours inside an axis of n cells: from i − 1 (0 at cell
--                        0) to the lesser of i + 1 and n − 1
--   total f l            the sum of f over the members of l
--   one t                1 for true, 0 for false
--   cells_around ns p     how many cells are around the cell with coordinates p, itself among them
--   true_around ns mask p how many of these are true
--   median_at ns mask p   whether more than floor((cells − 1)/2) of them are true
--   median_answer ns mask the medians of all cells
use Rattle.std.specs.Prelude.{ℕ, ◌+◌, ◌-◌, ◌*◌, ◌/◌, min, Bool, false, cond, List, [], ◌∷◌, ltb, length, get_or}
use Rattle.numbers.specs.Lists.{tabulate}
use Rattle.array_spec.specs.Grid.{cell_count, length_of, coordinate, level_at}

abbrev pub up_to : ℕ → ℕ → List ℕ
up_to lo hi = tabulate (λ j. j) lo (hi - lo)

abbrev pub around : ℕ → ℕ → List ℕ
around n i = up_to (i - 1) (min (i + 2) n)

abbrev pub total : (ℕ → ℕ) → List ℕ → ℕ
total f [] = 0
total f (x ∷ xs) = f x + total f xs

abbrev pub one : Bool → ℕ
one t = cond t 1 0

unfoldable pub cells_around : List ℕ → (ℕ → ℕ) → ℕ
cells_around ns p = length (around (length_of ns 0) (p 0)) * length (around (length_of ns 1) (p 1)) * length
    (around (length_of ns 2) (p 2))

unfoldable pub true_around : List ℕ → List Bool → (ℕ → ℕ) → ℕ
true_around ns mask p =
    total (λ x. total (λ y. total (λ z. one (level_at false ns mask (λ a. get_or (x ∷ y ∷ z ∷ []) a 0)))
    (around (length_of ns 2) (p 2))) (around (length_of ns 1) (p 1))) (around (length_of ns 0) (p 0))

abbrev pub median_at : List ℕ → List Bool → (ℕ → ℕ) → Bool
median_at ns mask p = ltb ((cells_around ns p - 1) / 2) (true_around ns mask p)

unfoldable pub median_answer : List ℕ → List Bool → List Bool
median_answer ns mask = tabulate (λ k. median_at ns mask (coordinate ns k)) 0 (cell_count ns)
