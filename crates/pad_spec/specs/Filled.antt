-- A padded grid while its axes are filled, in rising order.
--   Filled mode ns lefts ps cells d out   every place of out that is in the middle on each axis from d on holds the
--                                         level that belongs there
--   Fills mode ns lefts ps d e held out   whatever grid was laid in the middle: where held is filled from d on, out is
--                                         from e on
use Rattle.std.specs.Prelude.{ℕ, ◌<◌, ◌≡◌, true, false, List, ℤ, pos, length, get_or}
use Rattle.numbers.specs.Lists.{any_of}
use Rattle.array_spec.specs.Conditions.{bad_level}
use Rattle.array_spec.specs.Grid.{cell_count, coordinate}
use Rattle.border.specs.declared.PadMode.{PadMode}
use Rattle.pad_spec.specs.Levels.{level_to}
use Rattle.pad_spec.specs.Pads.{middle_from}

pub record Filled (mode : PadMode) (ns lefts ps : List ℕ) (cells : List ℤ) (d : ℕ) (out : List ℤ) : Type 0 where
  pub levels : any_of bad_level cells ≡ false
  pub count : length out ≡ cell_count ps
  pub finals : (k : ℕ) → k < cell_count ps → middle_from ns lefts d (coordinate ps k) ≡ true → get_or out k (pos 0)
      ≡ level_to mode ns lefts cells (length ns) (coordinate ps k)

abbrev pub Fills : PadMode → List ℕ → List ℕ → List ℕ → ℕ → ℕ → List ℤ → List ℤ → Type 0
Fills mode ns lefts ps d e held out = (cells : List ℤ) → Filled mode ns lefts ps cells d held
    → Filled mode ns lefts ps cells e out
