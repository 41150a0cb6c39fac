-- Correlation and convolution with a kernel of as many axes as the grid, from SciPy's pages on `correlate` and
-- `convolve`. Kernels have equal sides.
--   sides_of ns side               the kernel's shape
--   side_of sides                  the side of a kernel of that shape, its first; 1 where there is none, a kernel that
--                                 condition 5 refuses
--   window_at left sides p k a     the coordinate on axis a of kernel cell k, in the window of the cell with coordinates
--                                 p: the window starts at cell − left pad
--   kernel_sum b left sides w ns cells p    the sum of the window of the cell with coordinates p, each cell of the
--                                          extended grid times its weight
--   kernel_answer b left sides w ns cells   the sums of all cells
--   correlate_z b o sides w ns cells        the sums, the window moved by the origin o
--   convolved_sum b o sides w ns cells p    the sum over k of weight k times the cell of the extended grid that it
--                                          meets: on every axis as along one, the side for the count of weights
--   convolve_z b o sides w ns cells         these sums of all cells
use Rattle.std.specs.Prelude.{ℕ, List, ℤ, pos, ◌+ℤ◌, ◌-ℤ◌, ◌*ℤ◌, length, get_or, replicate}
use Rattle.numbers.specs.Lists.{tabulate}
use Rattle.array_spec.specs.Grid.{cell_count, length_of, coordinate}
use Rattle.border.specs.Border.{Border, extended_grid}
use Rattle.window_spec.specs.Window.{kernel_left}
use Rattle.correlate_spec.specs.Weighed.{summed}
use Rattle.correlate_spec.specs.Convolved.{meets}

abbrev pub sides_of : List ℕ → ℕ → List ℕ
sides_of ns side = replicate (length ns) side

abbrev pub side_of_lem : List ℕ → ℕ
side_of_lem sides = length_of sides 0

abbrev pub window_at : ℕ → List ℕ → (ℕ → ℕ) → ℕ → ℕ → ℤ
window_at left sides p k a = pos (p a) -ℤ pos left +ℤ pos (coordinate sides k a)

unfoldable pub kernel_sum : Border ℤ → ℕ → List ℕ → List ℤ → List ℕ → List ℤ → (ℕ → ℕ) → ℤ
kernel_sum b left sides w ns cells p = summed ◌+ℤ◌ (pos 0)
    (λ k. extended_grid (pos 0) b ns cells (window_at left sides p k) *ℤ get_or w k (pos 0)) (length w)

unfoldable pub kernel_answer : Border ℤ → ℕ → List ℕ → List ℤ → List ℕ → List ℤ → List ℤ
kernel_answer b left sides w ns cells = tabulate (λ k. kernel_sum b left sides w ns cells (coordinate ns k)) 0
    (cell_count ns)

abbrev pub correlate_z : Border ℤ → ℤ → List ℕ → List ℤ → List ℕ → List ℤ → List ℤ
correlate_z b o sides w ns cells = kernel_answer b (kernel_left (side_of_lem sides) o) sides w ns cells

unfoldable pub convolved_sum : Border ℤ → ℤ → List ℕ → List ℤ → List ℕ → List ℤ → (ℕ → ℕ) → ℤ
convolved_sum b o sides w ns cells p = summed ◌+ℤ◌ (pos 0)
    (λ k. extended_grid (pos 0) b ns cells (λ a. meets (side_of_lem sides) o (p a) (coordinate sides k a))
    *ℤ get_or w k (pos 0)) (length w)

abbrev pub convolve_z : Border ℤ → ℤ → List ℕ → List ℤ → List ℕ → List ℤ → List ℤ
convolve_z b o sides w ns cells = tabulate (λ k. convolved_sum b o sides w ns cells (coordinate ns k)) 0 (cell_count ns)
