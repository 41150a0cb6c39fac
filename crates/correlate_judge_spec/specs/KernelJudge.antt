-- The conditions of `correlate` and `convolve` with grid kernels, as document 01 words them. The flag `convolution`
-- says convolution.
--   bad_side first side                 5 of one side: outside 1..7, or not the first side
--   bad_kernel ns sides count           5: kernel axes not as many as the grid's (a grid has axes, so none at all is
--                                      refused), a side that is bad, or a count
--                                      of weights that is not the product of the sides
--   kernel_placed convolution b o sides w ns conditions 5, 6, 7 (the caller's origin, of every kernel), 9 and 11
--   bad_kernel_sums convolution b o sides w ns cells    12: a sum of the answer outside signed 64 bits
--   kernel_judged convolution b o sides w ns cells out what a call refuses, in rising order; out is the output's length
-- The side that 7, 11 and 12 name is the first; where there is none it is 1, and 5 holds.
use Rattle.std.specs.Prelude.{ℕ, Bool, not, ◌||◌, List, [], ◌∷◌, ◌++◌, eqb, ℤ, length}
use Rattle.numbers.specs.Limits.{longest_side}
use Rattle.numbers.specs.Lists.{any_of}
use Rattle.numbers.specs.Ranges.{outside, beyond}
use Rattle.numbers.specs.Refusal.{Judged}
use Rattle.array_spec.specs.Conditions.{bad_level, grid_judged}
use Rattle.array_spec.specs.Grid.{cell_count}
use Rattle.border.specs.Border.{Border}
use Rattle.border.specs.Modes.{bad_constant_by}
use Rattle.window_spec.specs.Origin.{bad_origin}
use Rattle.border.specs.Reach.{bad_pad}
use Rattle.correlate_spec.specs.Kernel.{side_of_lem, correlate_z}
use Rattle.window_spec.specs.Window.{kernel_left, kernel_right, applied_origin, bad_kernel_reach}
use Rattle.direction.specs.Direction.{directed}
use Rattle.correlate_judge_spec.specs.Judge.{bad_weight}

abbrev pub bad_side : ℕ → ℕ → Bool
bad_side first side = outside 1 longest_side side || not (eqb side first)

unfoldable pub bad_kernel : List ℕ → List ℕ → ℕ → Bool
bad_kernel ns sides count = not (eqb (length sides) (length ns)) || any_of (bad_side (side_of_lem sides)) sides
    || not (eqb count (cell_count sides))

abbrev pub kernel_placed : Bool → Border ℤ → ℤ → List ℕ → List ℤ → List ℕ → Judged
kernel_placed convolution b o sides w ns =
    let side = side_of_lem sides in
    (bad_kernel ns sides (length w), 5) ∷ (any_of bad_weight w, 6) ∷ (bad_origin side o, 7) ∷ (bad_constant_by bad_level b, 9)
    ∷ (bad_kernel_reach b side (applied_origin convolution side o) ns, 11) ∷ []

abbrev pub bad_kernel_sums : Bool → Border ℤ → ℤ → List ℕ → List ℤ → List ℕ → List ℤ → Bool
bad_kernel_sums convolution b o sides w ns cells = any_of beyond
    (correlate_z b (applied_origin convolution (side_of_lem sides) o) sides (directed convolution w) ns cells)

abbrev pub kernel_judged : Bool → Border ℤ → ℤ → List ℕ → List ℤ → List ℕ → List ℤ → ℕ → Judged
kernel_judged convolution b o sides w ns cells out =
    grid_judged ns cells (out ∷ []) ++ kernel_placed convolution b o sides w ns
    ++ ((bad_kernel_sums convolution b o sides w ns cells, 12) ∷ [])
