-- What the worker supposes of a pass of a call that was accepted.
--   PassNeeds b size ns a cells out   the window is accepted along axis a, the grid and the border's constant are
--                                     accepted, and the output is as long
use Rattle.std.specs.Prelude.{ℕ, ◌<◌, ◌≡◌, false, List, ℤ, pos, length}
use Rattle.numbers.specs.Lists.{any_of}
use Rattle.array_spec.specs.Conditions.{bad_shape, bad_level}
use Rattle.array_spec.specs.Grid.{cell_count, length_of}
use Rattle.border.specs.Border.{Border}
use Rattle.border.specs.Modes.{bad_constant_by}
use Rattle.window_spec.specs.Window.{bad_reach, bad_size}

pub record PassNeeds (b : Border ℤ) (size : ℕ) (ns : List ℕ) (a : ℕ) (cells out : List ℤ) : Type 0 where
  pub shape : bad_shape ns ≡ false
  pub axis : a < length ns
  pub count : length cells ≡ cell_count ns
  pub same : length out ≡ cell_count ns
  pub levels : any_of bad_level cells ≡ false
  pub window : bad_size size ≡ false
  pub level : bad_constant_by bad_level b ≡ false
  pub reach : bad_reach b size (pos 0) (length_of ns a) ≡ false
