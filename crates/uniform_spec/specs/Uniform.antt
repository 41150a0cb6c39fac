-- The uniform filters, from SciPy's pages on `uniform_filter1d` and `uniform_filter`; document 01 cuts each mean toward
-- zero, in every pass.
--   padded_for b size s             the lane s with the pads of a centred window: floor(size/2) places before it, size −
--                                  floor(size/2) − 1 after it
--   window_sums b size ns a cells   for each cell the sum of its window along axis a
--   uniform1d b size ns a cells    for each cell the mean of its window along axis a
--   uniform bs size ns cells       uniform1d along every axis, in rising order, axis a by its own border bs a
use Rattle.std.specs.Prelude.{ℕ, ◌-◌, ◌/◌, List, ℤ, pos, length}
use Rattle.numbers.specs.Lists.{tabulate}
use Rattle.lanes.specs.Axes.{over_axes}
use Rattle.lanes.specs.Lanes.{along_axis}
use Rattle.border.specs.Border.{Border}
use Rattle.pad_line.specs.Line.{padded_line}
use Rattle.correlate_spec.specs.WindowSum.{window_sum}
use Rattle.uniform_spec.specs.Mean.{means}

abbrev pub padded_for : Border ℤ → ℕ → List ℤ → List ℤ
padded_for b size s = padded_line (pos 0) b (size / 2) (size - size / 2 - 1) s

abbrev pub window_sums : Border ℤ → ℕ → List ℕ → ℕ → List ℤ → List ℤ
window_sums b size ns a cells = along_axis (pos 0) (λ s. tabulate (window_sum (padded_for b size s) size) 0 (length s)) ns a
    cells

abbrev pub uniform1d : Border ℤ → ℕ → List ℕ → ℕ → List ℤ → List ℤ
uniform1d b size ns a cells = along_axis (pos 0) (λ s. means (padded_for b size s) size (length s)) ns a cells

abbrev pub uniform : (ℕ → Border ℤ) → ℕ → List ℕ → List ℤ → List ℤ
uniform bs size ns cells = over_axes (λ a. uniform1d (bs a) size ns a) 0 (length ns) cells
