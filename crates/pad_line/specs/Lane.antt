-- A line filter on one lane and on every lane of an axis, over any element: what it gives, and what the workers
-- suppose of a call that was accepted. A line filter takes a padded line and the number of the lane's cells.
--   filtered_lane d f b left right s   the line filter f on the lane s, padded by the border b
--   LineNeeds                         padding one lane: the n cells, s apart, from place base on can be padded into
--                                     the line, a buffer of 1,088 cells, and the pads are those of an accepted window
--   AxisNeeds                         the loop over lanes: the border fills both pads of every lane of axis a of a
--                                     grid of shape ns, and the output is as long as the grid
use Rattle.std.specs.Prelude.{ℕ, ◌+◌, ◌≤◌, ◌<◌, ◌≡◌, false, List, length}
use Rattle.numbers.specs.Limits.{longest_line, longest_pad}
use Rattle.array_spec.specs.Conditions.{bad_shape}
use Rattle.array_spec.specs.Grid.{cell_count, length_of}
use Rattle.border.specs.Border.{Border}
use Rattle.pad_line.specs.Line.{padded_line, PadNeeds}
use Rattle.border.specs.Reach.{bad_pad}

abbrev pub filtered_lane : {A : Type 0} → A → (List A → ℕ → List A) → Border A → ℕ → ℕ → List A → List A
filtered_lane d f b left right s = f (padded_line d b left right s) (length s)

pub record LineNeeds {A : Type 0} (b : Border A) (n s base left right : ℕ) (cells line : List A) : Type 0 where
  pub padding : PadNeeds b n s base left right cells line
  pub buffer : length line ≡ longest_line
  pub narrow : left + right ≤ longest_pad

pub record AxisNeeds {A : Type 0} (b : Border A) (ns : List ℕ) (a left right : ℕ) (cells out : List A) : Type 0 where
  pub shape : bad_shape ns ≡ false
  pub axis : a < length ns
  pub count : length cells ≡ cell_count ns
  pub same : length out ≡ length cells
  pub fills_left : bad_pad b (length_of ns a) left ≡ false
  pub fills_right : bad_pad b (length_of ns a) right ≡ false
  pub narrow : left + right ≤ longest_pad
