-- Worked rows of this crate's definitions. Each holds by computing.
--   two          the rows 1 2 3 / 4 5 6
--   turned a     `two` with every lane of axis a read from its end
--   LanesRows    the rows
use Rattle.std.specs.Prelude.{ℕ, ◌≡◌, true, false, List, [], ◌∷◌, map, reverse, ℤ, pos}
use Rattle.numbers.specs.Rows.{wholes}
use Rattle.numbers.specs.Lists.{tabulate}
use Rattle.lanes.specs.Axes.{over_axes}
use Rattle.lanes.specs.Lanes.{lane_of, lane, with_lane, lane_inside, read_lane, lane_through, along_axis, lanes_of}

abbrev pub two : List ℤ
two = wholes (1 ∷ 2 ∷ 3 ∷ 4 ∷ 5 ∷ 6 ∷ [])

abbrev pub turned : ℕ → List ℤ
turned a = along_axis (pos 0) reverse (2 ∷ 3 ∷ []) a two

pub record LanesRows : Type 0 where
  -- lanes of 2 by 3: axis 0 has three lanes of 2 cells 3 places apart, axis 1 two of 3 cells 1 place apart
  pub lanes_down : lanes_of (2 ∷ 3 ∷ []) 0 ≡ record { len = 2; stride = 3; count = 3 }
  pub lanes_across : lanes_of (2 ∷ 3 ∷ []) 1 ≡ record { len = 3; stride = 1; count = 2 }
  pub lanes_refused : lanes_of (1025 ∷ []) 0 ≡ record { len = 0; stride = 0; count = 0 }
  pub lane-down : lane (pos 0) 2 3 1 two ≡ wholes (2 ∷ 5 ∷ [])
  pub lane-across : lane (pos 0) 3 1 1 two ≡ wholes (4 ∷ 5 ∷ 6 ∷ [])
  pub lane-numbers : map (lane_of 2 3) (0 ∷ 1 ∷ 4 ∷ 5 ∷ []) ≡ 0 ∷ 1 ∷ 1 ∷ 2 ∷ []
  pub lane_written : with_lane (pos 0) 2 3 1 (wholes (7 ∷ 8 ∷ [])) two ≡ wholes (1 ∷ 7 ∷ 3 ∷ 4 ∷ 8 ∷ 6 ∷ [])
  -- inside: lanes 0 and 2 of axis 0, not 3; not a line of no cells, a stride of 0, or a grid of over 32,768 cells
  pub insides : lane_inside 2 3 0 6 ∷ lane_inside 2 3 2 6 ∷ lane_inside 2 3 3 6 ∷ lane_inside 0 3 0 6 ∷ lane_inside 2 0 0 6
      ∷ lane_inside 2 3 0 32769 ∷ [] ≡ true ∷ true ∷ false ∷ false ∷ false ∷ false ∷ []
  pub read_in : read_lane (pos 0) 3 2 two (wholes (9 ∷ 9 ∷ [])) ≡ wholes (3 ∷ 6 ∷ [])
  pub read_out : read_lane (pos 0) 3 3 two (wholes (9 ∷ 9 ∷ [])) ≡ wholes (9 ∷ 9 ∷ [])
  -- the lanes through the cell at place 7 of 2 by 3 by 2 cells, which has the coordinates 1 0 1
  pub through : map (λ a. lane_through 0 (2 ∷ 3 ∷ 2 ∷ []) a (tabulate (λ k. k) 0 12) 7) (0 ∷ 1 ∷ 2 ∷ [])
      ≡ (1 ∷ 7 ∷ []) ∷ (7 ∷ 9 ∷ 11 ∷ []) ∷ (6 ∷ 7 ∷ []) ∷ []
  -- every lane of the middle of three axes read from its end
  pub turned-middle : along_axis 0 reverse (2 ∷ 3 ∷ 2 ∷ []) 1 (tabulate (λ k. k) 0 12)
      ≡ 4 ∷ 5 ∷ 2 ∷ 3 ∷ 0 ∷ 1 ∷ 10 ∷ 11 ∷ 8 ∷ 9 ∷ 6 ∷ 7 ∷ []
  -- every lane of an axis read from its end
  pub turned_down : turned 0 ≡ wholes (4 ∷ 5 ∷ 6 ∷ 1 ∷ 2 ∷ 3 ∷ [])
  pub turned-across : turned 1 ≡ wholes (3 ∷ 2 ∷ 1 ∷ 6 ∷ 5 ∷ 4 ∷ [])
  -- axis 0 first, then axis 1
  pub turned-both : over_axes (λ a g. along_axis (pos 0) reverse (2 ∷ 3 ∷ []) a g) 0 2 two
      ≡ wholes (6 ∷ 5 ∷ 4 ∷ 3 ∷ 2 ∷ 1 ∷ [])
