-- Conditions 1, 2, 3 and 8 of a refusal, as document 01 words them.
--   bad_shape ns        1: not 1 to 3 axes, a length outside 1..1,024, or over 8,192 cells
--   grid_count ns       the number of cells of an accepted shape; 0 where condition 1 holds
--   bad_length ns len   2: a lent grid's length is not the cell count
--   bad_level z         3: a whole level outside −(2^31 − 1)..2^31 − 1
--   bad_float x         3: a float level that is not finite
--   bad_axis ns a       8: an axis number not below the axis count
--   grid_judged_by bad ns cells lent   conditions 1, 2 (of the grid and of each lent grid, by the list of their lengths)
--                                    and 3, the
--                      test bad of one level, in rising order
--   grid_judged ns cells lent         the same of whole levels
-- Conditions 1 and 3 of a whole list are tests of any member: any_of bad_level, any_of bad_float.
use Rattle.std.specs.Prelude.{ℕ, Bool, true, false, not, ◌||◌, cond, List, [], ◌∷◌, ltb, eqb, Float, ℤ, length}
use Rattle.std.specs.Float.{nan, inf, fin}
use Rattle.numbers.specs.Limits.{largest_level, longest_axis, most_cells}
use Rattle.numbers.specs.Lists.{any_of}
use Rattle.numbers.specs.Refusal.{Judged}
use Rattle.numbers.specs.Ranges.{outside, over}
use Rattle.array_spec.specs.Grid.{cell_count}

unfoldable pub bad_shape : List ℕ → Bool
bad_shape ns = outside 1 3 (length ns) || any_of (outside 1 longest_axis) ns || ltb most_cells (cell_count ns)

unfoldable pub grid_count : List ℕ → ℕ
grid_count ns = cond (bad_shape ns) 0 (cell_count ns)

abbrev pub bad_length : List ℕ → ℕ → Bool
bad_length ns len = not (eqb len (grid_count ns))

unfoldable pub bad_level : ℤ → Bool
bad_level z = over largest_level z

abbrev pub bad_float : Float → Bool
bad_float nan = true
bad_float (inf s) = true
bad_float (fin s m e) = false

abbrev pub bad_axis : List ℕ → ℕ → Bool
bad_axis ns a = not (ltb a (length ns))

abbrev pub grid_judged_by : {A : Type 0} → (A → Bool) → List ℕ → List A → List ℕ → Judged
grid_judged_by bad ns cells lent = (bad_shape ns, 1) ∷ (any_of (bad_length ns) (length cells ∷ lent), 2)
    ∷ (any_of bad cells, 3) ∷ []

abbrev pub grid_judged : List ℕ → List ℤ → List ℕ → Judged
grid_judged ns cells lent = grid_judged_by bad_level ns cells lent
