-- Worked rows of this crate's definitions: T4, T5, refused calls, windows and boxes, a border for each axis. Each holds
-- by computing, those on boxes by the rule on the order of axes.
--   call .. , up, across, mixed, ..   the calls that the rows speak of
--   BoxLevel le shape cells calls k v     v is the first level, in the order le, of the box of the cell at place k
--   MinMaxSpecRows                    the rows
use Rattle.std.specs.Prelude.{ℕ, ◌≡◌, Bool, List, [], ◌∷◌, map, ℤ, pos, negsuc, get_or}
use Rattle.std.specs.Int.Signed.{le_z}
use Rattle.numbers.specs.Order.{at_least}
use Rattle.border.specs.Border.{Border, constant, along, extended_grid, extended_grid_by}
use Rattle.border.specs.declared.CellBorder.TheVariants.{Nearest, Mirror, Reflect, Wrap}
use Rattle.min_max_spec.specs.Call.{Call, first_in, last_in}
use Rattle.min_max_spec.specs.Run.{run, numbers}
use Rattle.min_max_spec.specs.Filters.{GridCall, filter_answer}
use Rattle.min_max_spec.specs.Order.{cell_at, border_on, Sweeps, InBox, Extremum}

abbrev pub call : List ℕ → ℕ → ℕ → Border ℤ → ℤ → List ℤ → Call
call shape size axis border origin out = record {
  shape = shape;
  size = size;
  axis = axis;
  border = border;
  origin =
      origin;
  out = out;
}

-- T5: rows 5 3 / 4 9
abbrev pub rows : List ℤ
rows = pos 5 ∷ pos 3 ∷ pos 4 ∷ pos 9 ∷ []

abbrev pub square : List ℕ
square = 2 ∷ 2 ∷ []

abbrev pub up : Call
up = call square 2 0 (constant (pos 0)) (pos 0) rows

abbrev pub across : Call
across = call square 2 1 (constant (pos 0)) (pos 0) rows

-- the same with a border of their own
abbrev pub up_by : Border ℤ → Call
up_by border = call square 2 0 border (pos 0) rows

abbrev pub across_by : Border ℤ → Call
across_by border = call square 2 1 border (pos 0) rows

abbrev pub t5 : List ℤ
t5 = pos 0 ∷ pos 0 ∷ pos 0 ∷ pos 3 ∷ []

-- T4
abbrev pub lane : List ℤ
lane = pos 4 ∷ pos 2 ∷ pos 7 ∷ pos 1 ∷ []

abbrev pub along_lane : Call
along_lane = call (4 ∷ []) 3 0 (along Reflect) (pos 0) lane

-- three cells
abbrev pub three : List ℤ
three = pos 1 ∷ pos 2 ∷ pos 3 ∷ []

abbrev pub on_three : ℕ → Border ℤ → ℤ → Call
on_three size border origin = call (3 ∷ []) size 0 border origin three

-- one cell of two axes, each with a window of two
abbrev pub on_one : ℕ → Border ℤ → Call
on_one axis border = call (1 ∷ 1 ∷ []) 2 axis border (pos 0) (pos 0 ∷ [])

-- 2 by 2 by 2
abbrev pub cube : List ℤ
cube = pos 8 ∷ pos 1 ∷ pos 6 ∷ pos 4 ∷ pos 5 ∷ pos 9 ∷ pos 2 ∷ negsuc 6 ∷ []

abbrev pub on_cube : ℕ → ℕ → ℤ → Call
on_cube axis size origin = call (2 ∷ 2 ∷ 2 ∷ []) size axis (along Nearest) origin cube

abbrev pub on_cube_by : ℕ → Border ℤ → Call
on_cube_by axis border = call (2 ∷ 2 ∷ 2 ∷ []) 2 axis border (pos 0) cube

-- three different borders, in two orders
abbrev pub three_borders : List Call
three_borders = on_cube_by 0 (along Wrap) ∷ on_cube_by 1 (constant (negsuc 2)) ∷ on_cube_by 2 (along Nearest) ∷ []

abbrev pub three_turned : List Call
three_turned = on_cube_by 2 (along Nearest) ∷ on_cube_by 0 (along Wrap) ∷ on_cube_by 1 (constant (negsuc 2)) ∷ []

abbrev pub by_three : List ℤ
by_three = negsuc 2 ∷ negsuc 2 ∷ pos 2 ∷ negsuc 6 ∷ negsuc 2 ∷ negsuc 2 ∷ pos 2 ∷ negsuc 6 ∷ []

-- the grid forms, each axis with its own border
abbrev pub grid_call : List ℕ → ℕ → (ℕ → Border ℤ) → ℤ → List ℤ → GridCall
grid_call shape size borders origin out = record {
  shape = shape;
  size = size;
  borders = borders;
  origin = origin;
  out = out;
}

abbrev pub by_square : Border ℤ → Border ℤ → GridCall
by_square b c = grid_call square 2 (λ a. get_or (b ∷ c ∷ []) a b) (pos 0) rows

abbrev pub by_cube : Border ℤ → Border ℤ → Border ℤ → GridCall
by_cube b c e = grid_call (2 ∷ 2 ∷ 2 ∷ []) 2 (λ a. get_or (b ∷ c ∷ e ∷ []) a b) (pos 0) cube

-- T5 with refused calls before, between and after: no axis 2, origin 1, another constant out of range, a border that
-- cannot pad
abbrev pub mixed : List Call
mixed =
    call square 2 2 (constant (pos 0)) (pos 0) rows ∷ up ∷ call square 2 1 (constant (pos 0)) (pos 1) rows
    ∷ call square 2 1 (constant (pos 2147483648)) (pos 0) rows ∷ across
    ∷ call square 7 0 (along Mirror) (pos 0) rows ∷ []

-- the box of the cell at place k, each axis extended by its own call's border
abbrev pub BoxLevel : (ℤ → ℤ → Bool) → List ℕ → List ℤ → List Call → ℕ → ℤ → Type 0
BoxLevel le shape cells calls k v =
    Extremum le (extended_grid_by (pos 0) (border_on calls) shape cells) (InBox calls (cell_at shape k)) v

pub record MinMaxSpecRows : Type 0 where
  pub t5-up-across : run le_z rows (up ∷ across ∷ []) ≡ t5
  pub t5-across-up : run le_z rows (across ∷ up ∷ []) ≡ t5
  pub t4_minimum : run le_z lane (along_lane ∷ []) ≡ pos 2 ∷ pos 2 ∷ pos 1 ∷ pos 1 ∷ []
  pub t4_maximum : run at_least lane (along_lane ∷ []) ≡ pos 4 ∷ pos 7 ∷ pos 7 ∷ pos 7 ∷ []
  -- refused calls in between: no axis 2 (8), a lent output of 0 cells (2), four axes (1), a window of 66 (5), origin 1
  -- (7), a constant of 2^31 (9)
  pub refused : numbers le_z rows
      (up ∷ call square 2 2 (constant (pos 0)) (pos 0) rows ∷ call square 2 1 (constant (pos 0)) (pos 0) []
      ∷ call (1 ∷ 1 ∷ 2 ∷ 2 ∷ []) 2 1 (constant (pos 0)) (pos 0) rows
      ∷ call square 66 1 (constant (pos 0)) (pos 0) rows ∷ call square 2 1 (constant (pos 0)) (pos 1) rows
      ∷ call square 2 1 (constant (pos 2147483648)) (pos 0) rows ∷ across ∷ [])
      ≡ 0 ∷ 8 ∷ 2 ∷ 1 ∷ 5 ∷ 7 ∷ 9 ∷ 0 ∷ []
  pub refused_left : run le_z rows (up ∷ call square 2 2 (constant (pos 0)) (pos 0) rows
      ∷ call square 2 1 (constant (pos 0)) (pos 1) rows ∷ across ∷ []) ≡ t5
  pub refused_level : numbers le_z (pos 1 ∷ negsuc 2147483647 ∷ [])
      (call (2 ∷ []) 1 0 (along Wrap) (pos 0) (pos 0 ∷ pos 0 ∷ []) ∷ []) ≡ 3 ∷ []
  -- length 1 passes with origin 99
  pub alone_99 : numbers le_z rows (call square 1 0 (along Mirror) (pos 99) rows ∷ []) ≡ 0 ∷ []
  pub alone_copies : run le_z rows (call square 1 0 (along Mirror) (pos 99) rows ∷ []) ≡ rows
  -- three cells, origin 0: mirror takes length 5 and refuses 7 with 11; reflect takes 7 and refuses 9
  pub pads : numbers le_z three (on_three 5 (along Mirror) (pos 0) ∷ on_three 7 (along Mirror) (pos 0)
      ∷ on_three 7 (along Reflect) (pos 0) ∷ on_three 9 (along Reflect) (pos 0) ∷ [])
      ≡ 0 ∷ 11 ∷ 0 ∷ 11 ∷ []
  -- length 4 under mirror: pads 2 and 1 pass; pads 3 and 0 (origin 1) and pads 0 and 3 (origin −2) give 11
  pub each_pad : numbers le_z three (on_three 4 (along Mirror) (pos 0) ∷ on_three 4 (along Mirror) (pos 1)
      ∷ on_three 4 (along Mirror) (negsuc 1) ∷ []) ≡ 0 ∷ 11 ∷ 11 ∷ []
  pub wrap_pads : numbers le_z three (on_three 7 (along Wrap) (pos 0) ∷ on_three 9 (along Wrap) (pos 0) ∷ []) ≡ 0 ∷ 11 ∷ []
  -- length 4, origin 1, cell 5: from 5 − 2 − 1 to 5 + 1 − 1
  pub window_from : first_in (on_three 4 (along Nearest) (pos 1)) (pos 5) ≡ pos 2
  pub window-to : last_in (on_three 4 (along Nearest) (pos 1)) (pos 5) ≡ pos 5
  -- length 4: origins −2 and 1 pass; −3 and 2 give 7
  pub origins : numbers le_z three
      (on_three 4 (along Nearest) (negsuc 1) ∷ on_three 4 (along Nearest) (pos 1) ∷ on_three 4 (along Nearest) (negsuc 2)
      ∷ on_three 4 (along Nearest) (pos 2) ∷ [])
      ≡ 0 ∷ 0 ∷ 7 ∷ 7 ∷ []
  -- three axes: length 2 on axis 0, 1 on axis 1 with an origin that is not read, 2 on axis 2 with origin −1, which
  -- looks one cell ahead
  pub cube-one : run le_z cube (on_cube 0 2 (pos 0) ∷ on_cube 1 1 (pos 99) ∷ on_cube 2 2 (negsuc 0) ∷ [])
      ≡ pos 1 ∷ pos 1 ∷ pos 4 ∷ pos 4 ∷ pos 1 ∷ pos 1 ∷ negsuc 6 ∷ negsuc 6 ∷ []
  pub cube_other : run le_z cube (on_cube 2 2 (negsuc 0) ∷ on_cube 1 1 (pos 99) ∷ on_cube 0 2 (pos 0) ∷ [])
      ≡ pos 1 ∷ pos 1 ∷ pos 4 ∷ pos 4 ∷ pos 1 ∷ pos 1 ∷ negsuc 6 ∷ negsuc 6 ∷ []
  -- the grid forms, minimum and maximum: T5; the cube with length 2 under Nearest, as SciPy answers; 2 by 2 by 1 cells,
  -- whose third axis reads the constant 2
  pub t5_grid : filter_answer le_z (by_square (constant (pos 0)) (constant (pos 0))) rows
      ∷ filter_answer at_least (by_square (constant (pos 0)) (constant (pos 0))) rows ∷ []
      ≡ t5 ∷ (pos 5 ∷ pos 5 ∷ pos 5 ∷ pos 9 ∷ []) ∷ []
  pub cube_grid : filter_answer le_z (by_cube (along Nearest) (along Nearest) (along Nearest)) cube
      ∷ filter_answer at_least (by_cube (along Nearest) (along Nearest) (along Nearest)) cube ∷ []
      ≡ (pos 8 ∷ pos 1 ∷ pos 6 ∷ pos 1 ∷ pos 5 ∷ pos 1 ∷ pos 2 ∷ negsuc 6 ∷ [])
      ∷ (pos 8 ∷ pos 8 ∷ pos 8 ∷ pos 8 ∷ pos 8 ∷ pos 9 ∷ pos 8 ∷ pos 9 ∷ []) ∷ []
  pub third_axis : filter_answer le_z (grid_call (2 ∷ 2 ∷ 1 ∷ []) 2 (λ _. constant (pos 2)) (pos 0) rows) rows
      ≡ pos 2 ∷ pos 2 ∷ pos 2 ∷ pos 2 ∷ []
  -- the rule on the order of axes speaks of T5, also with refused calls in the list, and of three axes
  pub speaks_of_t5 : Sweeps le_z square rows (up ∷ across ∷ [])
  -- and says what T5's last cell is: the least level of the box of its four neighbours 5 3 / 4 9 is 3
  pub box_of_t5 : Extremum le_z (extended_grid (pos 0) (constant (pos 0)) square rows)
      (InBox (up ∷ across ∷ []) (cell_at square 3)) (pos 3)
  pub speaks_of_mixed : Sweeps le_z square rows mixed
  pub mixed-numbers : numbers le_z rows mixed ≡ 8 ∷ 0 ∷ 7 ∷ 9 ∷ 0 ∷ 11 ∷ []
  pub speaks_of_cube : Sweeps at_least (2 ∷ 2 ∷ 2 ∷ []) cube
      (on_cube 2 2 (negsuc 0) ∷ on_cube 1 1 (pos 99) ∷ on_cube 0 2 (pos 0) ∷ [])
  -- a border for each axis, in both orders: constant 7 and constant 1; constant 6 and Wrap
  pub two-constants : run le_z rows (up_by (constant (pos 7)) ∷ across_by (constant (pos 1)) ∷ [])
      ≡ pos 1 ∷ pos 3 ∷ pos 1 ∷ pos 3 ∷ []
  pub two-constants-turned : run le_z rows (across_by (constant (pos 1)) ∷ up_by (constant (pos 7)) ∷ [])
      ≡ pos 1 ∷ pos 3 ∷ pos 1 ∷ pos 3 ∷ []
  pub constant_wrap : run at_least rows (up_by (constant (pos 6)) ∷ across_by (along Wrap) ∷ [])
      ≡ pos 6 ∷ pos 6 ∷ pos 9 ∷ pos 9 ∷ []
  pub constant_wrap_turned : run at_least rows (across_by (along Wrap) ∷ up_by (constant (pos 6)) ∷ [])
      ≡ pos 6 ∷ pos 6 ∷ pos 9 ∷ pos 9 ∷ []
  -- one cell 0 under constant 0 and constant 4: the corner is 0 in the extended grid, and 4 still occurs in the box
  -- beside it
  pub corner : run at_least (pos 0 ∷ []) (on_one 0 (constant (pos 0)) ∷ on_one 1 (constant (pos 4)) ∷ []) ≡ pos 4 ∷ []
  pub corner_turned : run at_least (pos 0 ∷ []) (on_one 1 (constant (pos 4)) ∷ on_one 0 (constant (pos 0)) ∷ [])
      ≡ pos 4 ∷ []
  pub corner_level : map
      (λ q. extended_grid_by (pos 0) (border_on (on_one 1 (constant (pos 4)) ∷ on_one 0 (constant (pos 0)) ∷ []))
      (1 ∷ 1 ∷ []) (pos 0 ∷ []) (λ a. get_or q a (pos 0)))
      ((negsuc 0 ∷ negsuc 0 ∷ []) ∷ (pos 0 ∷ negsuc 0 ∷ []) ∷ [])
      ≡ pos 0 ∷ pos 4 ∷ []
  -- Wrap, constant −3 and Nearest on the cube: every other way to give these borders to the axes answers otherwise
  pub three_borders_lem : run le_z cube three_borders ≡ by_three
  pub three_borders_turned : run le_z cube three_turned ≡ by_three
  -- each axis has the border of its first call, and constant 0 where it has none
  pub borders : map (border_on (across_by (along Wrap) ∷ up_by (constant (pos 6)) ∷ across ∷ [])) (0 ∷ 1 ∷ 2 ∷ [])
      ≡ constant (pos 6) ∷ along Wrap ∷ constant (pos 0) ∷ []
  -- the rule speaks of them, in both orders
  pub speaks_of_borders : Sweeps le_z square rows (up_by (constant (pos 6)) ∷ across_by (along Wrap) ∷ [])
  pub speaks_of_borders_turned : Sweeps le_z square rows (across_by (along Wrap) ∷ up_by (constant (pos 6)) ∷ [])
  pub speaks_of_three_borders : Sweeps le_z (2 ∷ 2 ∷ 2 ∷ []) cube three_turned
  -- and says what the first cell is: the box 7 7 / 1 5, whose corner is 7, has 1 and 7; the box 6 6 / 3 5, whose 3 is
  -- the row's last cell, has 3 and 6
  pub box_of_two-constants :
      BoxLevel le_z square rows (across_by (constant (pos 1)) ∷ up_by (constant (pos 7)) ∷ []) 0 (pos 1)
      × BoxLevel at_least square rows (across_by (constant (pos 1)) ∷ up_by (constant (pos 7)) ∷ []) 0 (pos 7)
  pub box_of_constant_wrap :
      BoxLevel le_z square rows (across_by (along Wrap) ∷ up_by (constant (pos 6)) ∷ []) 0 (pos 3)
      × BoxLevel at_least square rows (across_by (along Wrap) ∷ up_by (constant (pos 6)) ∷ []) 0 (pos 6)
  -- of the cube's cell 0 0 0 the constant −3; of its cell 0 1 0 the level 2 of cell 1 1 0, which Wrap reads on axis 0,
  -- and not the −7 beside that, which Nearest does not read on axis 2
  pub box_of_three_borders : BoxLevel le_z (2 ∷ 2 ∷ 2 ∷ []) cube three_turned 0 (negsuc 2)
      × BoxLevel le_z (2 ∷ 2 ∷ 2 ∷ []) cube three_turned 2 (pos 2)
  -- the grid forms of the same, as SciPy's one-axis filters answer one after the other; Wrap, constant 3 and Mirror,
  -- minimum and maximum, as SciPy's grid forms answer
  pub two-constants_grid : filter_answer le_z (by_square (constant (pos 7)) (constant (pos 1))) rows
      ≡ pos 1 ∷ pos 3 ∷ pos 1 ∷ pos 3 ∷ []
  pub constant_wrap_grid : filter_answer at_least (by_square (constant (pos 6)) (along Wrap)) rows
      ≡ pos 6 ∷ pos 6 ∷ pos 9 ∷ pos 9 ∷ []
  pub three_borders_grid : filter_answer le_z (by_cube (along Wrap) (constant (negsuc 2)) (along Nearest)) cube ≡ by_three
  pub mirror_grid : filter_answer le_z (by_cube (along Wrap) (constant (pos 3)) (along Mirror)) cube
      ∷ filter_answer at_least (by_cube (along Wrap) (constant (pos 3)) (along Mirror)) cube ∷ []
      ≡ (pos 1 ∷ pos 1 ∷ negsuc 6 ∷ negsuc 6 ∷ pos 1 ∷ pos 1 ∷ negsuc 6 ∷ negsuc 6 ∷ [])
      ∷ (pos 9 ∷ pos 9 ∷ pos 9 ∷ pos 9 ∷ pos 9 ∷ pos 9 ∷ pos 9 ∷ pos 9 ∷ []) ∷ []
