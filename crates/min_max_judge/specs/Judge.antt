-- The conditions of the minimum and maximum filters, one-axis and grid forms. Which number a one-axis call gets stands
-- in `min_max_spec`; here is how the arguments of the program's calls make such a call, and which number a grid call
-- gets.
--   call_of ns size a m o held   the one-axis call of these arguments, `held` the lent output as it stands
--   grid_call_of ns size ms o held      the grid call of these arguments, ms the border mode of each axis
--   size_judged size o           conditions 5 and 7 of a window
--   filter_axes_judged c          conditions 5, 7, 9 and 11 of a window along every axis: 9 and 11 of any axis, each
--                               with its own border
--   filter_judged cells c second conditions 1, 2 (input, output, second grid), 3, 5, 7, 9 and 11 of a grid call
use Rattle.std.specs.Prelude.{ℕ, List, [], ◌∷◌, ◌++◌, ℤ, length}
use Rattle.numbers.specs.Refusal.{Judged}
use Rattle.array_spec.specs.Conditions.{bad_level, grid_judged}
use Rattle.border.specs.Axes.{borders_of, any_axis, bad_constants}
use Rattle.border.specs.Modes.{border_of}
use Rattle.border.specs.declared.BorderMode.{BorderMode}
use Rattle.min_max_spec.specs.Call.{Call}
use Rattle.min_max_spec.specs.Filters.{GridCall}
use Rattle.window_spec.specs.Window.{bad_size, bad_window_origin, bad_reach}

abbrev pub call_of : List ℕ → ℕ → ℕ → BorderMode → ℤ → List ℤ → Call
call_of ns size a m o held = record { shape = ns; size = size; axis = a; border = border_of m; origin = o; out = held }

abbrev pub grid_call_of : List ℕ → ℕ → List BorderMode → ℤ → List ℤ → GridCall
grid_call_of ns size ms o held = record {
  shape = ns;
  size = size;
  borders = borders_of ms;
  origin = o;
  out = held;
}

abbrev pub size_judged : ℕ → ℤ → Judged
size_judged size o = (bad_size size, 5) ∷ (bad_window_origin size o, 7) ∷ []

abbrev pub filter_axes_judged : GridCall → Judged
filter_axes_judged c =
    size_judged c.size c.origin
    ++ ((bad_constants bad_level c.borders c.shape, 9)
    ∷ (any_axis (λ b. bad_reach b c.size c.origin) c.borders c.shape, 11) ∷ [])

abbrev pub filter_judged : List ℤ → GridCall → ℕ → Judged
filter_judged cells c second = grid_judged c.shape cells (length c.out ∷ second ∷ []) ++ filter_axes_judged c
