-- The window of a cell along an axis, as document 01 words it: how many cells stand on each side of it, the pads that
-- it needs, and conditions 5, 7 and 11. A kernel of equal sides has its own pads, the same on every axis.
--   left_of len, right_of len       floor(len/2), and len − left − 1: the cells before and after the cell itself, where
--                                 the origin is 0
--   left_pad len o, right_pad len o         left + origin, and right − origin
--   kernel_left side o, kernel_right side o
--                                 the pads of a grid kernel, as they are laid: floor(side/2) + origin, and
--                                 floor(side/2) − origin
--   bad_size len                   5: a length, or a count of weights, outside 1..65
--   bad_window_origin len o         7, where the origin is read: a window of more than one cell refuses it
--   bad_either_pad b left right n        11 of two pads of n cells: the border cannot fill one of them
--   bad_reach b len o n            11 of a window: of one cell nothing is padded, else bad_either_pad of its pads
--   bad_kernel_reach b side o ns    11 of a grid kernel: of some axis, the pads as they are laid; on the right an even
--                                 kernel never reads the last cell
--   changed_origin len o           the origin of a convolution as it is applied: negated, and for an even count of
--                                 weights 1 less
--   applied_origin convolution len o    the caller's origin, or, where convolution says convolution, the changed one
use Rattle.std.specs.Prelude.{ℕ, ◌-◌, ◌/◌, ◌%◌, Bool, not, ◌&&◌, ◌||◌, cond, List, eqb, ℤ, pos, neg_ℤ, nat_abs, ◌+ℤ◌, ◌-ℤ◌}
use Rattle.numbers.specs.Limits.{longest_window}
use Rattle.numbers.specs.Lists.{any_of}
use Rattle.numbers.specs.Ranges.{outside}
use Rattle.border.specs.Border.{Border}
use Rattle.border.specs.Reach.{bad_pad}
use Rattle.window_spec.specs.Origin.{bad_origin}

abbrev pub left_of : ℕ → ℕ
left_of len = len / 2

abbrev pub right_of : ℕ → ℕ
right_of len = len - len / 2 - 1

-- no sum is negative where the origin is accepted
abbrev pub left_pad : ℕ → ℤ → ℕ
left_pad len o = nat_abs (pos (left_of len) +ℤ o)

abbrev pub right_pad : ℕ → ℤ → ℕ
right_pad len o = nat_abs (pos (right_of len) -ℤ o)

abbrev pub kernel_left : ℕ → ℤ → ℕ
kernel_left side o = nat_abs (pos (side / 2) +ℤ o)

abbrev pub kernel_right : ℕ → ℤ → ℕ
kernel_right side o = nat_abs (pos (side / 2) -ℤ o)

abbrev pub bad_size : ℕ → Bool
bad_size len = outside 1 longest_window len

abbrev pub bad_window_origin : ℕ → ℤ → Bool
bad_window_origin len o = not (eqb len 1) && bad_origin len o

abbrev pub bad_either_pad : {A : Type 0} → Border A → ℕ → ℕ → ℕ → Bool
bad_either_pad b left right n = bad_pad b n left || bad_pad b n right

abbrev pub bad_reach : {A : Type 0} → Border A → ℕ → ℤ → ℕ → Bool
bad_reach b len o n = not (eqb len 1) && bad_either_pad b (left_pad len o) (right_pad len o) n

abbrev pub bad_kernel_reach : {A : Type 0} → Border A → ℕ → ℤ → List ℕ → Bool
bad_kernel_reach b side o ns = any_of (bad_either_pad b (kernel_left side o) (kernel_right side o)) ns

abbrev pub changed_origin : ℕ → ℤ → ℤ
changed_origin len o = neg_ℤ o -ℤ pos (cond (eqb (len % 2) 0) 1 0)

abbrev pub applied_origin : Bool → ℕ → ℤ → ℤ
applied_origin convolution len o = cond convolution (changed_origin len o) o
