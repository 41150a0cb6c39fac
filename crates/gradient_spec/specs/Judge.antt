-- The conditions of `prewitt` and `sobel`, as document 01 words them. bs a is the border of axis a. 9 and 11 look at
-- every axis with its own border, and 12 at the grid after every pass.
--   passes_judged bs ns axis             8, 9 and 11 (a pad of one cell on each side of every axis)
--   bad_gradient_sums smooth bs ns axis cells      12: a sum of some pass outside signed 64 bits
--   gradient_judged smooth bs ns axis cells out second
--                                       what a call refuses, in rising order; out and second are the lengths of the
--                                       lent grids
--   ThreeSmall w                        three weights within −2..2, as those of both filters are
--   GradientNumber bs ns axis cells out second r
--                                       r is the number of a call, by whichever of such weights it smooths
use Rattle.std.specs.Prelude.{ℕ, suc, ◌≡◌, Bool, false, List, [], ◌∷◌, ◌++◌, ℤ, pos, neg_ℤ, length}
use Rattle.numbers.specs.Lists.{tabulate, any_of}
use Rattle.numbers.specs.Ranges.{outside_z, beyond}
use Rattle.numbers.specs.Refusal.{Judged, refusal_of}
use Rattle.array_spec.specs.Conditions.{bad_level, bad_axis, grid_judged}
use Rattle.border.specs.Border.{Border}
use Rattle.border.specs.Axes.{any_axis, bad_constants}
use Rattle.border.specs.Reach.{bad_pad}
use Rattle.gradient_spec.specs.Gradient.{gradient_to}

abbrev pub passes_judged : (ℕ → Border ℤ) → List ℕ → ℕ → Judged
passes_judged bs ns axis = (bad_axis ns axis, 8) ∷ (bad_constants bad_level bs ns, 9)
    ∷ (any_axis (λ b n. bad_pad b n 1) bs ns, 11) ∷ []

abbrev pub bad_gradient_sums : List ℤ → (ℕ → Border ℤ) → List ℕ → ℕ → List ℤ → Bool
bad_gradient_sums smooth bs ns axis cells = any_of (any_of beyond)
    (tabulate (gradient_to smooth bs ns axis cells) 0 (suc (length ns)))

abbrev pub gradient_judged : List ℤ → (ℕ → Border ℤ) → List ℕ → ℕ → List ℤ → ℕ → ℕ → Judged
gradient_judged smooth bs ns axis cells out second =
    grid_judged ns cells (out ∷ second ∷ []) ++ passes_judged bs ns axis
    ++ ((bad_gradient_sums smooth bs ns axis cells, 12) ∷ [])

pub record ThreeSmall (w : List ℤ) : Type 0 where
  pub three : length w ≡ 3
  pub small : any_of (outside_z (neg_ℤ (pos 2)) (pos 2)) w ≡ false

abbrev pub GradientNumber : (ℕ → Border ℤ) → List ℕ → ℕ → List ℤ → ℕ → ℕ → ℕ → Type 0
GradientNumber bs ns axis cells out second r = (smooth : List ℤ) → ThreeSmall smooth → r
    ≡ refusal_of (gradient_judged smooth bs ns axis cells out second)
