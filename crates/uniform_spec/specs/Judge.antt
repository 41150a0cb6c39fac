-- The conditions of `uniform_filter1d` and `uniform_filter`, as document 01 words them. There is no origin, so 7 does
-- not occur. The grid form has a border for each axis: bs a is that of axis a.
--   half_over size n                  11, of the grid form alone: floor(size/2) over n
--   bad_grid_reach b size n            11 of a lane of n cells in the grid form: the border cannot fill a pad, or
--                                    half_over
--   bad_uniform_sums b size ns a cells         12 of a pass along axis a: the sum of a window outside signed 64 bits
--   bad_uniform_sums_from bs size ns a n cells  12 of the n passes from axis a on, each on what the one before it left
--   uniform_along_judged b size ns a           conditions 5, 8, 9 and 11 of a window along axis a
--   uniform_axes_judged bs size ns             conditions 5, 9 and 11 of a window along every axis; 9 and 11 of each
--                                            axis by its own border
--   uniform1d_judged b size ns a cells out         what uniform_filter1d refuses, in rising order; out is the output's
--                                                 length
--   uniform_judged bs size ns cells out second     what uniform_filter refuses; second is the second grid's length
use Rattle.std.specs.Prelude.{ℕ, zero, suc, ◌/◌, Bool, false, ◌||◌, List, [], ◌∷◌, ◌++◌, ltb, ℤ, pos, length}
use Rattle.numbers.specs.Lists.{any_of}
use Rattle.numbers.specs.Ranges.{beyond}
use Rattle.numbers.specs.Refusal.{Judged}
use Rattle.array_spec.specs.Conditions.{bad_level, bad_axis, grid_judged}
use Rattle.array_spec.specs.Grid.{length_of}
use Rattle.border.specs.Axes.{any_axis, bad_constants}
use Rattle.border.specs.Border.{Border}
use Rattle.border.specs.Modes.{bad_constant_by}
use Rattle.window_spec.specs.Window.{bad_reach, bad_size}
use Rattle.uniform_spec.specs.Uniform.{window_sums, uniform1d}

abbrev pub half_over : ℕ → ℕ → Bool
half_over size n = ltb n (size / 2)

abbrev pub bad_grid_reach : Border ℤ → ℕ → ℕ → Bool
bad_grid_reach b size n = bad_reach b size (pos 0) n || half_over size n

abbrev pub bad_uniform_sums : Border ℤ → ℕ → List ℕ → ℕ → List ℤ → Bool
bad_uniform_sums b size ns a cells = any_of beyond (window_sums b size ns a cells)

abbrev pub bad_uniform_sums_from : (ℕ → Border ℤ) → ℕ → List ℕ → ℕ → ℕ → List ℤ → Bool
bad_uniform_sums_from bs size ns a zero cells = false
bad_uniform_sums_from bs size ns a (suc n) cells = bad_uniform_sums (bs a) size ns a cells
    || bad_uniform_sums_from bs size ns (suc a) n (uniform1d (bs a) size ns a cells)

abbrev pub uniform_along_judged : Border ℤ → ℕ → List ℕ → ℕ → Judged
uniform_along_judged b size ns a = (bad_size size, 5) ∷ (bad_axis ns a, 8) ∷ (bad_constant_by bad_level b, 9)
    ∷ (bad_reach b size (pos 0) (length_of ns a), 11) ∷ []

abbrev pub uniform_axes_judged : (ℕ → Border ℤ) → ℕ → List ℕ → Judged
uniform_axes_judged bs size ns = (bad_size size, 5) ∷ (bad_constants bad_level bs ns, 9)
    ∷ (any_axis (λ b. bad_grid_reach b size) bs ns, 11) ∷ []

abbrev pub uniform1d_judged : Border ℤ → ℕ → List ℕ → ℕ → List ℤ → ℕ → Judged
uniform1d_judged b size ns a cells out = grid_judged ns cells (out ∷ []) ++ uniform_along_judged b size ns a
    ++ ((bad_uniform_sums b size ns a cells, 12) ∷ [])

abbrev pub uniform_judged : (ℕ → Border ℤ) → ℕ → List ℕ → List ℤ → ℕ → ℕ → Judged
uniform_judged bs size ns cells out second =
    grid_judged ns cells (out ∷ second ∷ []) ++ uniform_axes_judged bs size ns
    ++ ((bad_uniform_sums_from bs size ns 0 (length ns) cells, 12) ∷ [])
