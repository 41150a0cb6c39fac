-- Worked rows of this crate's definitions: T6, means by hand, and each number at its limits. Each holds by computing.
--   three b a size           the number of uniform_filter1d on the cells 1 2 3 along axis a
--   on_three b size           the number of uniform_filter on them
--   on_one size               the numbers of both on the cell 5 under Nearest
--   square                   the rows 1 2 / 3 −6
--   oblong                   the rows 9 6 −3 / 12 0 15
--   by s                     a border for each axis: axis a has member a of the list s, those past it Constant 0
--   on_shape ns s size        the number of uniform_filter on zeros of the shape ns, by the borders s
--   too_large                 the constant 2^31, which 9 refuses
--   JudgeRows         the rows
use Rattle.std.specs.Prelude.{ℕ, ◌^◌, ◌≡◌, true, false, List, [], ◌∷◌, map, ℤ, pos, get_or, replicate}
use Rattle.numbers.specs.Refusal.{refusal_of}
use Rattle.numbers.specs.Rows.{minus, wholes}
use Rattle.array_spec.specs.Grid.{cell_count}
use Rattle.border.specs.Border.{Border, constant, along}
use Rattle.border.specs.declared.CellBorder.TheVariants.{Nearest, Mirror, Reflect, Wrap}
use Rattle.correlate_spec.specs.Rows.{box_shape, box_levels}
use Rattle.uniform_spec.specs.Uniform.{window_sums, uniform1d, uniform}
use Rattle.uniform_spec.specs.Judge.{bad_grid_reach, bad_uniform_sums, bad_uniform_sums_from}
use Rattle.uniform_spec.specs.Judge.{uniform1d_judged, uniform_judged}

abbrev pub three : Border ℤ → ℕ → ℕ → ℕ
three b a size = refusal_of (uniform1d_judged b size (3 ∷ []) a (wholes (1 ∷ 2 ∷ 3 ∷ [])) 3)

abbrev pub on_three : Border ℤ → ℕ → ℕ
on_three b size = refusal_of (uniform_judged (λ _. b) size (3 ∷ []) (wholes (1 ∷ 2 ∷ 3 ∷ [])) 3 3)

abbrev pub on_one : ℕ → List ℕ
on_one size = refusal_of (uniform1d_judged (along Nearest) size (1 ∷ []) 0 (wholes (5 ∷ [])) 1)
    ∷ refusal_of (uniform_judged (λ _. along Nearest) size (1 ∷ []) (wholes (5 ∷ [])) 1 1) ∷ []

abbrev pub square : List ℤ
square = pos 1 ∷ pos 2 ∷ pos 3 ∷ minus 6 ∷ []

abbrev pub oblong : List ℤ
oblong = pos 9 ∷ pos 6 ∷ minus 3 ∷ pos 12 ∷ pos 0 ∷ pos 15 ∷ []

abbrev pub by : List (Border ℤ) → ℕ → Border ℤ
by s a = get_or s a (constant (pos 0))

abbrev pub on_shape : List ℕ → List (Border ℤ) → ℕ → ℕ
on_shape ns s size = refusal_of (uniform_judged (by s) size ns (replicate (cell_count ns) (pos 0)) (cell_count ns)
    (cell_count ns))

abbrev pub too_large : Border ℤ
too_large = constant (pos (2 ^ 31))

pub record JudgeRows : Type 0 where
  -- T6: −1 −2 −4, size 3, Constant 0; the sums of its windows
  pub t6 : uniform1d (constant (pos 0)) 3 (3 ∷ []) 0 (minus 1 ∷ minus 2 ∷ minus 4 ∷ [])
      ≡ minus 1 ∷ minus 2 ∷ minus 2 ∷ []
  pub t6_grid : uniform (λ _. constant (pos 0)) 3 (3 ∷ []) (minus 1 ∷ minus 2 ∷ minus 4 ∷ [])
      ≡ minus 1 ∷ minus 2 ∷ minus 2 ∷ []
  pub sums : window_sums (constant (pos 0)) 3 (3 ∷ []) 0 (minus 1 ∷ minus 2 ∷ minus 4 ∷ [])
      ≡ minus 3 ∷ minus 7 ∷ minus 6 ∷ []
  -- an even window reads the cell before: −1 −2 under Nearest, size 2: −2 over 2 and −3 over 2
  pub even : uniform1d (along Nearest) 2 (2 ∷ []) 0 (minus 1 ∷ minus 2 ∷ []) ≡ minus 1 ∷ minus 1 ∷ []
  -- the rows 1 2 / 3 −6, size 2 under Nearest: 1 2 / 2 −2 along axis 0, 1 1 / 3 −1 along axis 1; both, each pass cut: 1
  -- 1 / 2 0
  pub down : uniform1d (along Nearest) 2 (2 ∷ 2 ∷ []) 0 square ≡ pos 1 ∷ pos 2 ∷ pos 2 ∷ minus 2 ∷ []
  pub across : uniform1d (along Nearest) 2 (2 ∷ 2 ∷ []) 1 square ≡ pos 1 ∷ pos 1 ∷ pos 3 ∷ minus 1 ∷ []
  pub both : uniform (λ _. along Nearest) 2 (2 ∷ 2 ∷ []) square ≡ pos 1 ∷ pos 1 ∷ pos 2 ∷ pos 0 ∷ []
  -- three axes, as SciPy answers: along each axis of the box of 2 by 3 by 2 levels with size 3, and the grid form
  pub box : map (λ a. uniform1d (along Nearest) 3 box_shape a box_levels) (0 ∷ 1 ∷ 2 ∷ [])
      ≡ wholes (2 ∷ 2 ∷ 4 ∷ 1 ∷ 5 ∷ 8 ∷ 2 ∷ 4 ∷ 4 ∷ 2 ∷ 5 ∷ 8 ∷ [])
      ∷ wholes (3 ∷ 1 ∷ 4 ∷ 3 ∷ 4 ∷ 6 ∷ 3 ∷ 5 ∷ 4 ∷ 5 ∷ 5 ∷ 6 ∷ [])
      ∷ wholes (2 ∷ 1 ∷ 3 ∷ 2 ∷ 6 ∷ 7 ∷ 3 ∷ 4 ∷ 4 ∷ 3 ∷ 6 ∷ 7 ∷ []) ∷ []
  pub box_grid : uniform (λ _. along Nearest) 3 box_shape box_levels
      ≡ wholes (1 ∷ 1 ∷ 3 ∷ 3 ∷ 4 ∷ 4 ∷ 2 ∷ 2 ∷ 3 ∷ 3 ∷ 4 ∷ 5 ∷ [])
  -- the caller's constant stands beside every pass: one cell 9 of the shape 1 1, size 3 under Constant 0: 9 over 3, and
  -- 3 over 3
  pub twice : uniform (λ _. constant (pos 0)) 3 (1 ∷ 1 ∷ []) (pos 9 ∷ []) ≡ pos 1 ∷ []
  -- each pass by its own axis's border: the rows 9 6 −3 / 12 0 15, size 2, under Constant 0 and Wrap and the other way
  -- round, as SciPy answers
  pub mixed : map (λ s. uniform (by s) 2 (2 ∷ 3 ∷ []) oblong)
      ((constant (pos 0) ∷ along Wrap ∷ []) ∷ (along Wrap ∷ constant (pos 0) ∷ []) ∷ [])
      ≡ wholes (1 ∷ 3 ∷ 1 ∷ 8 ∷ 6 ∷ 4 ∷ []) ∷ wholes (5 ∷ 6 ∷ 4 ∷ 5 ∷ 6 ∷ 4 ∷ []) ∷ []
  -- and under Constant 5 and Constant 9: 7 5 1 / 10 3 6 after axis 0
  pub mixed-constants : map (λ s. uniform (by s) 2 (2 ∷ 3 ∷ []) oblong)
      ((constant (pos 5) ∷ constant (pos 9) ∷ []) ∷ (constant (pos 9) ∷ constant (pos 5) ∷ []) ∷ [])
      ≡ wholes (8 ∷ 6 ∷ 3 ∷ 9 ∷ 6 ∷ 4 ∷ []) ∷ wholes (7 ∷ 8 ∷ 5 ∷ 7 ∷ 6 ∷ 4 ∷ []) ∷ []
  -- the box with size 3 under Wrap, Mirror and Nearest, and under Reflect, Constant 0 and Wrap, as SciPy answers
  pub mixed-box : map (λ s. uniform (by s) 3 box_shape box_levels)
      ((along Wrap ∷ along Mirror ∷ along Nearest ∷ []) ∷ (along Reflect ∷ constant (pos 0) ∷ along Wrap ∷ []) ∷ [])
      ≡ wholes (2 ∷ 2 ∷ 3 ∷ 3 ∷ 4 ∷ 4 ∷ 2 ∷ 1 ∷ 3 ∷ 3 ∷ 3 ∷ 3 ∷ [])
      ∷ wholes (1 ∷ 1 ∷ 3 ∷ 3 ∷ 3 ∷ 3 ∷ 2 ∷ 2 ∷ 3 ∷ 3 ∷ 3 ∷ 3 ∷ []) ∷ []
  -- 5: sizes 0, 1, 65 and 66
  pub sizes : map (three (along Nearest) 0) (0 ∷ 1 ∷ 65 ∷ 66 ∷ []) ≡ 5 ∷ 0 ∷ 0 ∷ 5 ∷ []
  pub grid_sizes : map (on_three (along Nearest)) (0 ∷ 1 ∷ 7 ∷ 66 ∷ []) ≡ 5 ∷ 0 ∷ 0 ∷ 5 ∷ []
  -- 8: axis 1 of one axis, also with size 1
  pub axis_1 : map (three (along Mirror) 1) (1 ∷ 7 ∷ []) ≡ 8 ∷ 8 ∷ []
  -- 9: ±2^31, also with size 1; 8 before it
  pub constants : map (λ c. three (constant c) 0 1) (minus (2 ^ 31) ∷ pos (2 ^ 31) ∷ pos 7 ∷ []) ≡ 9 ∷ 9 ∷ 0 ∷ []
  pub grid_constants : map (λ c. on_three (constant c) 1) (minus (2 ^ 31) ∷ pos (2 ^ 31) ∷ pos 7 ∷ []) ≡ 9 ∷ 9 ∷ 0 ∷ []
  -- 9 by the second axis's constant alone, with sizes 1 and 3; not where there is one axis
  pub second_constant : map (on_shape (2 ∷ 2 ∷ []) (along Nearest ∷ too_large ∷ [])) (1 ∷ 3 ∷ [])
      ∷ map (on_shape (2 ∷ []) (along Nearest ∷ too_large ∷ [])) (1 ∷ 3 ∷ []) ∷ [] ≡ (9 ∷ 9 ∷ []) ∷ (0 ∷ 0 ∷ []) ∷ []
  -- 9 by the third axis's constant; not where there are two
  pub third_constant : map (λ ns. on_shape ns (along Wrap ∷ along Nearest ∷ too_large ∷ []) 1)
      ((2 ∷ 2 ∷ 2 ∷ []) ∷ (2 ∷ 2 ∷ []) ∷ []) ≡ 9 ∷ 0 ∷ []
  pub axis-first : three (constant (pos (2 ^ 31))) 1 3 ≡ 8
  -- 11: three cells, Mirror takes 5 and refuses 7, Reflect takes 7 and refuses 9, and so does Wrap
  pub reaches : three (along Mirror) 0 5 ∷ three (along Mirror) 0 7 ∷ three (along Reflect) 0 7
      ∷ three (along Reflect) 0 9 ∷ three (along Wrap) 0 9 ∷ [] ≡ 0 ∷ 11 ∷ 0 ∷ 11 ∷ 11 ∷ []
  pub grid_reaches : on_three (along Mirror) 5 ∷ on_three (along Mirror) 7 ∷ on_three (along Reflect) 7
      ∷ on_three (along Reflect) 9 ∷ [] ≡ 0 ∷ 11 ∷ 0 ∷ 11 ∷ []
  -- the half-size rule under Constant and Nearest: half 3 on three cells passes, half 4 does not; uniform_filter1d has
  -- no such rule
  pub halves : on_three (constant (pos 0)) 7 ∷ on_three (constant (pos 0)) 9 ∷ on_three (along Nearest) 8
      ∷ three (constant (pos 0)) 0 9 ∷ [] ≡ 0 ∷ 11 ∷ 11 ∷ 0 ∷ []
  -- 11 by the second axis's Mirror alone: 9 by 2 cells with size 5; not where Mirror stands at the axis of 9 cells.
  -- Nor of three cells with size 7, which have one axis
  pub second-reach : on_shape (9 ∷ 2 ∷ []) (along Nearest ∷ along Mirror ∷ []) 5
      ∷ on_shape (9 ∷ 2 ∷ []) (along Mirror ∷ along Nearest ∷ []) 5
      ∷ on_shape (3 ∷ []) (along Nearest ∷ along Mirror ∷ []) 7 ∷ [] ≡ 11 ∷ 0 ∷ 0 ∷ []
  -- the half-size rule on one axis alone, of 2 cells under Constant 0 or Nearest: half 2 passes, half 3 does not
  pub one-half : map (on_shape (9 ∷ 2 ∷ []) (along Wrap ∷ constant (pos 0) ∷ [])) (5 ∷ 6 ∷ [])
      ∷ map (on_shape (2 ∷ 9 ∷ []) (along Nearest ∷ along Wrap ∷ [])) (5 ∷ 6 ∷ []) ∷ []
      ≡ (0 ∷ 11 ∷ []) ∷ (0 ∷ 11 ∷ []) ∷ []
  -- one cell under Nearest: size 3 passes both, size 5 the one-axis form alone
  pub one_cell : map on_one (3 ∷ 5 ∷ []) ≡ (0 ∷ 0 ∷ []) ∷ (0 ∷ 11 ∷ []) ∷ []
  -- any axis: 9 by 2 cells with size 5 under Mirror, 9 by 1 with size 5 under Nearest
  pub any_axis_lem : map (bad_grid_reach (along Mirror) 5) (9 ∷ 2 ∷ []) ∷ map (bad_grid_reach (along Nearest) 5) (9 ∷ 1 ∷ [])
      ∷ [] ≡ (false ∷ true ∷ []) ∷ (false ∷ true ∷ []) ∷ []
  -- 12, of levels that 3 refuses: two cells 2^62 in a window of two, in the first pass and in the second
  pub beyond-one : map (λ x. bad_uniform_sums (along Nearest) 2 (1 ∷ []) 0 (x ∷ [])) (pos (2 ^ 62) ∷ minus (2 ^ 62) ∷ [])
      ≡ true ∷ false ∷ []
  pub beyond_later : bad_uniform_sums_from (λ _. constant (pos (2 ^ 63))) 2 (1 ∷ 1 ∷ []) 0 1 (minus (2 ^ 63) ∷ [])
      ∷ bad_uniform_sums_from (λ _. constant (pos (2 ^ 63))) 2 (1 ∷ 1 ∷ []) 0 2 (minus (2 ^ 63) ∷ []) ∷ []
      ≡ false ∷ true ∷ []
  -- each pass by its own axis's border: 2^63 before the second axis alone, 0 before the first
  pub beyond_own : map (λ s. bad_uniform_sums_from (by s) 2 (1 ∷ 1 ∷ []) 0 2 (pos 0 ∷ []))
      ((constant (pos 0) ∷ constant (pos (2 ^ 63)) ∷ []) ∷ (constant (pos 0) ∷ constant (pos 0) ∷ []) ∷ [])
      ≡ true ∷ false ∷ []
  -- 1, 2 (output; second grid) and 3 come first
  pub grids : refusal_of (uniform1d_judged (along Nearest) 0 [] 9 [] 0)
      ∷ refusal_of (uniform1d_judged (along Nearest) 0 (3 ∷ []) 9 (wholes (1 ∷ 2 ∷ 3 ∷ [])) 4)
      ∷ refusal_of (uniform1d_judged (along Nearest) 0 (1 ∷ []) 9 (pos (2 ^ 31) ∷ []) 1) ∷ [] ≡ 1 ∷ 2 ∷ 3 ∷ []
  pub grid_grids : refusal_of (uniform_judged (λ _. along Nearest) 0 [] [] 0 0)
      ∷ refusal_of (uniform_judged (λ _. along Nearest) 0 (1 ∷ []) (wholes (5 ∷ [])) 1 2)
      ∷ refusal_of (uniform_judged (λ _. along Nearest) 0 (1 ∷ []) (pos (2 ^ 31) ∷ []) 1 1) ∷ [] ≡ 1 ∷ 2 ∷ 3 ∷ []
