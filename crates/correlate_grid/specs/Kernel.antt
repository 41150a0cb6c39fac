-- What the worker supposes of a kernel of as many axes as the grid, all sides equal.
--   KernelCallNeeds b ns side left right w cells out    an accepted grid, a kernel of side 1 to 7 with its weights, pads that
--                                                 the border fills, levels and weights
--                                                 within their limits
use Rattle.std.specs.Prelude.{ℕ, ◌+◌, ◌≤◌, ◌<◌, ◌≡◌, false, List, ℤ, length}
use Rattle.numbers.specs.Limits.{largest_weight}
use Rattle.numbers.specs.Lists.{any_of}
use Rattle.numbers.specs.Ranges.{over}
use Rattle.array_spec.specs.Conditions.{bad_shape, bad_level}
use Rattle.array_spec.specs.Grid.{cell_count, length_of}
use Rattle.border.specs.Border.{Border}
use Rattle.border.specs.Modes.{bad_constant_by}
use Rattle.border.specs.Reach.{bad_pad}
use Rattle.correlate_spec.specs.Kernel.{sides_of}

pub record KernelCallNeeds (b : Border ℤ) (ns : List ℕ) (side left right : ℕ) (w cells out : List ℤ) : Type 0 where
  pub shape : bad_shape ns ≡ false
  pub count : length cells ≡ cell_count ns
  pub same : length out ≡ length cells
  pub some : 0 < side
  pub narrow : side ≤ 7
  pub many : length w ≡ cell_count (sides_of ns side)
  pub wide : side ≤ left + right + 1
  pub pads : left + right ≤ 7
  pub fills_left : (a : ℕ) → a < length ns → bad_pad b (length_of ns a) left ≡ false
  pub fills_right : (a : ℕ) → a < length ns → bad_pad b (length_of ns a) right ≡ false
  pub weights : any_of (over largest_weight) w ≡ false
  pub level : bad_constant_by bad_level b ≡ false
  pub levels : any_of bad_level cells ≡ false
