-- The order in which axes are swept changes no level: demand 3, one statement about a list of calls.
--   Point                 a signed coordinate for each axis
--   cell_at ns k           the coordinates of the cell at place k
--   times_swept a calls    how many of the calls sweep axis a
--   border_on calls a      the border of the call that sweeps axis a
--   Sweeps                what the demand supposes of a grid and a list of calls
--   InBox calls p q       the point q lies in the box of the cell p
--   Extremum              a level comes before every level of a part of the extended grid, and occurs in it
--   OrderFor le           the rule for one order
--   OrderOfAxes           the rule, for minimum and for maximum
use Rattle.std.specs.Prelude.{ℕ, suc, ◌<◌, ◌≡◌, Bool, cond, T, eqb, ℤ, pos, length, get_or}
use mathlib.Core.List.{List, map, foldr, zip, Perm}
use Rattle.std.specs.Int.Signed.{le_z}
use Rattle.numbers.specs.Lists.{Every}
use Rattle.numbers.specs.Order.{at_least}
use Rattle.array_spec.specs.Grid.{coordinate}
use Rattle.border.specs.Border.{Border, constant, extended_grid, extended_grid_by}
use Rattle.min_max_spec.specs.Call.{Call, InWindow, number_of, grid_number}
use Rattle.min_max_spec.specs.Run.{run, numbers, accepted}

-- a coordinate for each axis
abbrev pub Point : Type 0
Point = ℕ → ℤ

-- the coordinates of the cell at place k
abbrev pub cell_at : List ℕ → ℕ → Point
cell_at shape k a = pos (coordinate shape k a)

-- how many of the calls sweep axis a
abbrev pub times_swept : ℕ → List Call → ℕ
times_swept a calls = foldr (λ c n. cond (eqb c.axis a) (suc n) n) 0 calls

-- the border of the call that sweeps axis a: the first of them, and constant 0 where there is none
abbrev pub border_on : List Call → ℕ → Border ℤ
border_on calls a = foldr (λ c b. cond (eqb c.axis a) c.border b) (constant (pos 0)) calls

-- The grid is accepted; the accepted calls name the grid's own lengths and sweep each axis exactly once, each with a
-- border of its own.
pub record Sweeps (le : ℤ → ℤ → Bool) (shape : List ℕ) (cells : List ℤ) (calls : List Call) : Type 0 where
  pub grid : grid_number shape cells ≡ 0
  pub named : Every (λ c. c.shape ≡ shape) (accepted le cells calls)
  pub once : (a : ℕ) → a < length shape → times_swept a (accepted le cells calls) ≡ 1

-- A cell's box, all coordinates q that lie on every axis in that axis's window: each axis has one of the calls, and q
-- lies in its window.
abbrev pub InBox : List Call → Point → Point → Type 0
InBox calls p q = Every (λ c. InWindow c (p c.axis) (q c.axis)) calls

-- v is the least (or greatest) level of a part of the extended grid: it comes before every level of the part, and
-- occurs in it.
pub record Extremum (le : ℤ → ℤ → Bool) (level : Point → ℤ) (Part : Point → Type 0) (v : ℤ) : Type 0 where
  pub bound : (q : Point) → Part q → T (le v (level q))
  pub occurs : (q : Point) × Part q × (v ≡ level q)

pub record OrderFor (le : ℤ → ℤ → Bool) : Type 0 where
  -- A call gets the number, or the acceptance, that it would have got as the list's first.
  pub same_numbers : (cells : List ℤ) (calls : List Call) → numbers le cells calls ≡ map (number_of cells) calls
  -- After the list there are as many cells, each the least level of its box in the extension of the grid that the list
  -- starts with, each axis extended by its own call's border.
  pub same_length : (cells : List ℤ) (calls : List Call) → length (run le cells calls) ≡ length cells
  pub box : (shape : List ℕ) (cells : List ℤ) (calls : List Call) → Sweeps le shape cells calls
      → (k : ℕ) → k < length cells
      → Extremum le (extended_grid_by (pos 0) (border_on (accepted le cells calls)) shape cells)
      (InBox (accepted le cells calls) (cell_at shape k)) (get_or (run le cells calls) k (pos 0))
  -- Where the accepted calls share one border, that is the extension by this border.
  pub one_border : (shape : List ℕ) (border : Border ℤ) (cells : List ℤ) (calls : List Call)
      → Sweeps le shape cells calls → Every (λ c. c.border ≡ border) (accepted le cells calls)
      → (k : ℕ) → k < length cells
      → Extremum le (extended_grid (pos 0) border shape cells) (InBox (accepted le cells calls) (cell_at shape k))
      (get_or (run le cells calls) k (pos 0))
  -- Two lists that differ only in order leave the same grid, and give each call the same number.
  pub same_grid : (shape : List ℕ) (cells : List ℤ) (calls calls' : List Call) → Perm calls calls'
      → Sweeps le shape cells calls → run le cells calls ≡ run le cells calls'
  pub each_number : (cells : List ℤ) (calls calls' : List Call) → Perm calls calls'
      → Perm (zip calls (numbers le cells calls)) (zip calls' (numbers le cells calls'))

pub record OrderOfAxes : Type 0 where
  pub minimum : OrderFor le_z
  pub maximum : OrderFor at_least
