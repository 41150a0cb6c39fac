-- A one-axis minimum or maximum call: everything that a caller hands over, its window, and the number that it gets.
-- Written from SciPy's pages on minimum_filter1d and maximum_filter1d, and from document 01 where it speaks.
--   Call                  shape, size, axis, border, origin, and the lent output as it stands
--   left, right           floor(len/2), and len − left − 1
--   alone c               whether the length is 1: nothing is padded and no origin is read
--   axis_length c          the length of the call's axis
--   first_in, last_in c i   the ends of the window of coordinate i
--   InWindow c i z        coordinate z lies in the window of coordinate i, both ends included
--   window c i            the same as a list, one coordinate after the other
--   window_judged c, call_judged cells c   conditions 5, 7, 8, 9 and 11 of a window, and all conditions of a call on
--                                        these levels
--   number_of cells c      the number that a call on these levels gets; 0: accepted
--   grid_number ns cells   the number that a grid gets by itself: 1, 2 and 3 judge what its owner answers for
use Rattle.std.specs.Prelude.{ℕ, Bool, cond, List, [], ◌∷◌, ◌++◌, eqb, ℤ, pos, ◌+ℤ◌, ◌-ℤ◌, ◌≤ℤ◌, length}
use Rattle.numbers.specs.Lists.{up_from}
use Rattle.numbers.specs.Refusal.{Judged, refusal_of}
use Rattle.array_spec.specs.Conditions.{bad_level, bad_axis, grid_judged}
use Rattle.array_spec.specs.Grid.{length_of}
use Rattle.border.specs.Border.{Border}
use Rattle.border.specs.Modes.{bad_constant_by}
use Rattle.window_spec.specs.Window.{left_of, right_of, bad_size, bad_window_origin, bad_reach}

pub record Call : Type 0 where
  pub shape : List ℕ
  pub size : ℕ
  pub axis : ℕ
  pub border : Border ℤ
  pub origin : ℤ
  pub out : List ℤ

abbrev pub left : Call → ℕ
left c = left_of c.size

abbrev pub right : Call → ℕ
right c = right_of c.size

abbrev pub alone : Call → Bool
alone c = eqb c.size 1

abbrev pub axis_length : Call → ℕ
axis_length c = length_of c.shape c.axis

-- On an axis whose window length is 1 the window is the cell alone.
-- On any other axis the window of cell i is the coordinates from i − left − origin to i + right − origin, both
-- included.
unfoldable pub first_in : Call → ℤ → ℤ
first_in c i = cond (alone c) i (i -ℤ pos (left c) -ℤ c.origin)

unfoldable pub last_in : Call → ℤ → ℤ
last_in c i = cond (alone c) i (i +ℤ pos (right c) -ℤ c.origin)

pub record InWindow (c : Call) (i z : ℤ) : Type 0 where
  pub from : first_in c i ≤ℤ z
  pub to : z ≤ℤ last_in c i

abbrev pub window : Call → ℤ → List ℤ
window c i = up_from (first_in c i) c.size

-- ---- refusals

abbrev pub window_judged : Call → Judged
window_judged c =
    (bad_size c.size, 5) ∷ (bad_window_origin c.size c.origin, 7) ∷ (bad_axis c.shape c.axis, 8)
    ∷ (bad_constant_by bad_level c.border, 9) ∷ (bad_reach c.border c.size c.origin (axis_length c), 11) ∷ []

abbrev pub call_judged : List ℤ → Call → Judged
call_judged cells c = grid_judged c.shape cells (length c.out ∷ []) ++ window_judged c

unfoldable pub number_of : List ℤ → Call → ℕ
number_of cells c = refusal_of (call_judged cells c)

unfoldable pub grid_number : List ℕ → List ℤ → ℕ
grid_number ns cells = refusal_of (grid_judged ns cells [])
