-- Prewitt and Sobel filters of whole levels, from SciPy's pages on `prewitt` and `sobel`: the difference of the two
-- neighbours along an axis, smoothed along every other axis in rising order. Each pass has the border of its own axis,
-- against the grid that the pass before left: bs a is that of axis a.
--   difference                     −1, 0, 1
--   prewitt_weights, sobel_weights   1, 1, 1 and 1, 2, 1
--   smoothed bs smooth ns axis a g  the grid g smoothed along axis a; left as it is where a is the axis of the
--                                  difference
--   gradient_to smooth bs ns axis cells k   the grid after the difference and the passes along axes below k
--   gradient smooth bs ns axis cells       the grid after all passes
use Rattle.std.specs.Prelude.{ℕ, cond, List, [], ◌∷◌, eqb, ℤ, pos, neg_ℤ, length}
use Rattle.border.specs.Border.{Border}
use Rattle.lanes.specs.Axes.{over_axes}
use Rattle.correlate_spec.specs.Correlated.{correlate1d_z}

abbrev pub difference : List ℤ
difference = neg_ℤ (pos 1) ∷ pos 0 ∷ pos 1 ∷ []

abbrev pub prewitt_weights : List ℤ
prewitt_weights = pos 1 ∷ pos 1 ∷ pos 1 ∷ []

abbrev pub sobel_weights : List ℤ
sobel_weights = pos 1 ∷ pos 2 ∷ pos 1 ∷ []

abbrev pub smoothed : (ℕ → Border ℤ) → List ℤ → List ℕ → ℕ → ℕ → List ℤ → List ℤ
smoothed bs smooth ns axis a g = cond (eqb a axis) g (correlate1d_z (bs a) (pos 0) smooth ns a g)

unfoldable pub gradient_to : List ℤ → (ℕ → Border ℤ) → List ℕ → ℕ → List ℤ → ℕ → List ℤ
gradient_to smooth bs ns axis cells k = over_axes (smoothed bs smooth ns axis) 0 k
    (correlate1d_z (bs axis) (pos 0) difference ns axis cells)

abbrev pub gradient : List ℤ → (ℕ → Border ℤ) → List ℕ → ℕ → List ℤ → List ℤ
gradient smooth bs ns axis cells = gradient_to smooth bs ns axis cells (length ns)
