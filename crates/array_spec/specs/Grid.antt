-- A grid: a row-major array. Its shape is the length of each axis; its cells stand in a list, the last axis fastest.
--   cell_count ns           the number of cells
--   length_of ns a          the length of axis a; a missing axis has length 1
--   stride_of ns a          how many places apart the cells of axis a stand
--   place_of ns p           the place of the cell whose coordinate on each axis a is p a
--   coordinate ns k a      the coordinate on axis a of the cell at place k
--   moved a z p            the coordinates p, with z on axis a
--   level_at d ns cells p   the level of the cell with coordinates p; d where there is no such cell
use Rattle.std.specs.Prelude.{ℕ, zero, suc, ◌+◌, ◌*◌, ◌/◌, ◌%◌, cond, List, [], ◌∷◌, eqb, get_or, drop}

abbrev pub cell_count : List ℕ → ℕ
cell_count [] = 1
cell_count (n ∷ ns) = n * cell_count ns

abbrev pub length_of : List ℕ → ℕ → ℕ
length_of ns a = get_or ns a 1

abbrev pub stride_of : List ℕ → ℕ → ℕ
stride_of ns a = cell_count (drop (suc a) ns)

unfoldable pub place_of : List ℕ → (ℕ → ℕ) → ℕ
place_of [] p = 0
place_of (n ∷ ns) p = p 0 * cell_count ns + place_of ns (λ a. p (suc a))

unfoldable pub coordinate : List ℕ → ℕ → ℕ → ℕ
coordinate [] k a = 0
coordinate (n ∷ ns) k zero = k / cell_count ns
coordinate (n ∷ ns) k (suc a) = coordinate ns (k % cell_count ns) a

abbrev pub moved : {A : Type 0} → ℕ → A → (ℕ → A) → ℕ → A
moved a z p b = cond (eqb b a) z (p b)

abbrev pub level_at : {A : Type 0} → A → List ℕ → List A → (ℕ → ℕ) → A
level_at d ns cells p = get_or cells (place_of ns p) d
