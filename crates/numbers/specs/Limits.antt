-- The limits of document 01, each by its name. src/lib.rt has the same as constants.
--   longest_axis         cells on an axis
--   most_cells           cells of a grid
--   largest_level        the size of an input level or a constant
--   largest_between      the size of a level between passes, so that no sum leaves 64 bits
--   longest_window       cells of a window, weights along an axis
--   longest_side         cells on the side of a grid kernel
--   largest_weight       the size of a whole weight
--   longest_pad          places padded on one side
--   longest_line         cells of a filter's padded line: an axis and the pads of a window
--   longest_padded_axis   cells on an axis of a padded grid: an axis and a pad on either side
--   most_padded_cells     cells of a padded grid
use Rattle.std.specs.Prelude.{ℕ, ◌-◌, ◌^◌}

abbrev pub longest_axis : ℕ
longest_axis = 1024

abbrev pub most_cells : ℕ
most_cells = 8192

abbrev pub largest_level : ℕ
largest_level = 2 ^ 31 - 1

abbrev pub largest_between : ℕ
largest_between = 2 ^ 38

abbrev pub longest_window : ℕ
longest_window = 65

abbrev pub longest_side : ℕ
longest_side = 7

abbrev pub largest_weight : ℕ
largest_weight = 65535

abbrev pub longest_pad : ℕ
longest_pad = 64

abbrev pub longest_line : ℕ
longest_line = 1088

abbrev pub longest_padded_axis : ℕ
longest_padded_axis = 1152

abbrev pub most_padded_cells : ℕ
most_padded_cells = 32768
