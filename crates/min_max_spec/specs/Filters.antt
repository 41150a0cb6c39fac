-- What the grid forms of the minimum and maximum filters fill, from SciPy's pages on minimum_filter and maximum_filter:
-- every axis in rising order, each with a border of its own. Which number a grid call gets stands in `min_max_judge`.
--   GridCall                    shape, size, the border of each axis, origin, and the lent output as it stands
--   on_axis c a                  its pass along axis a, as a one-axis call
--   filter_answer le c cells     every axis in rising order, each pass on what the one before it left
use Rattle.std.specs.Prelude.{ℕ, Bool, List, ℤ, length}
use Rattle.lanes.specs.Axes.{over_axes}
use Rattle.border.specs.Border.{Border}
use Rattle.min_max_spec.specs.Call.{Call}
use Rattle.min_max_spec.specs.Run.{answer_of}

pub record GridCall : Type 0 where
  pub shape : List ℕ
  pub size : ℕ
  pub borders : ℕ → Border ℤ
  pub origin : ℤ
  pub out : List ℤ

abbrev pub on_axis : GridCall → ℕ → Call
on_axis c a = record {
  shape = c.shape;
  size = c.size;
  axis = a;
  border = c.borders a;
  origin = c.origin;
  out = c.out;
}

unfoldable pub filter_answer : (ℤ → ℤ → Bool) → GridCall → List ℤ → List ℤ
filter_answer le c cells = over_axes (λ a g. answer_of le g (on_axis c a)) 0 (length c.shape) cells
