-- The padded line of a lane, over any element: d stands for what is past the end of a list.
--   padded_at d b left s k                 the level at place k of a line that starts left places before cell 0 of the
--                                         lane s
--   padded_line d b left right s           the lane s with left places before it and right places after it
--   pad_middle d b left n right l          the line l with the n cells from place left on padded in place
--   pad_serves b n s l count left right room
--                                         whether lane l of n cells, s apart, is inside a grid of count cells, the
--                                         border fills both pads,
--                                         and the padded line is no longer than room
--   padded_lane d b n s l left right g held
--                                         what padding lane l of the grid g leaves in a lent line that held `held`: the
--                                         padded line, and
--                                         past it what was held; nothing changes where pad_serves does not hold
--   PadNeeds b n s base left right g held
--                                         what padding supposes of the n cells of the grid g from place base on, s
--                                         apart: they are some and inside,
--                                         the border fills both pads, and the padded line is no longer than the lent
--                                         one
use Rattle.std.specs.Prelude.{ℕ, ◌+◌, ◌*◌, ◌≤◌, ◌<◌, ◌≡◌, Bool, false, ◌&&◌, not, cond, List, ◌++◌, leb, pos, ◌-ℤ◌, length, get_or, take, drop}
use Rattle.numbers.specs.Lists.{tabulate}
use Rattle.lanes.specs.Lanes.{lane, lane_inside}
use Rattle.border.specs.Border.{Border, extended_lane}
use Rattle.border.specs.Reach.{bad_pad}

unfoldable pub padded_at : {A : Type 0} → A → Border A → ℕ → List A → ℕ → A
padded_at d b left s k = extended_lane b (length s) (λ i. get_or s i d) (pos k -ℤ pos left)

unfoldable pub padded_line : {A : Type 0} → A → Border A → ℕ → ℕ → List A → List A
padded_line d b left right s = tabulate (padded_at d b left s) 0 (left + length s + right)

abbrev pub pad_middle : {A : Type 0} → A → Border A → ℕ → ℕ → ℕ → List A → List A
pad_middle d b left n right l = padded_line d b left right (take n (drop left l)) ++ drop (left + n + right) l

unfoldable pub pad_serves : {A : Type 0} → Border A → ℕ → ℕ → ℕ → ℕ → ℕ → ℕ → ℕ → Bool
pad_serves b n s l count left right room = lane_inside n s l count && leb (left + n + right) room && not (bad_pad b n left)
    && not (bad_pad b n right)

abbrev pub padded_lane : {A : Type 0} → A → Border A → ℕ → ℕ → ℕ → ℕ → ℕ → List A → List A → List A
padded_lane d b n s l left right g held =
    cond (pad_serves b n s l (length g) left right (length held))
    (padded_line d b left right (lane d n s l g) ++ drop (left + n + right) held)
    held

pub record PadNeeds {A : Type 0} (b : Border A) (n s base left right : ℕ) (g held : List A) : Type 0 where
  pub some : 0 < n
  pub inside : base + n * s < length g + s
  pub fits : left + n + right ≤ length held
  pub fills_left : bad_pad b n left ≡ false
  pub fills_right : bad_pad b n right ≡ false
