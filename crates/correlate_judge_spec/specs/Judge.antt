-- The conditions of `correlate1d` and `convolve1d` and of their float forms, as document 01 words them. The flag
-- `convolution` says convolution: the weights are applied from the last to the first, and the origin is changed.
--   bad_weight z                        6: a whole weight outside −65,535..65,535; a float weight has the test of a
--                                      level, bad_float
--   weights_judged bad w                conditions 5 and 6 of the weights w, the test bad of one weight
--   place_judged bad convolution b o len ns a    conditions 7 (the caller's origin, where it is read), 8, 9 (the test
--                                               bad of one level) and 11
--                                      (the origin as it is applied) of len weights along axis a
--   bad_correlate_sums convolution b o w ns a cells    12: a sum of the answer outside signed 64 bits
--   correlate_judged convolution b o w ns a cells out    what a call on whole levels refuses, in rising order; out is
--                                                       the output's length
--   correlate_judged_f ..                the same of floats, whose sums are never refused
use Rattle.std.specs.Prelude.{ℕ, Bool, List, [], ◌∷◌, ◌++◌, Float, ℤ, length}
use Rattle.numbers.specs.Limits.{largest_weight}
use Rattle.numbers.specs.Lists.{any_of}
use Rattle.numbers.specs.Ranges.{beyond, over}
use Rattle.numbers.specs.Refusal.{Judged}
use Rattle.array_spec.specs.Conditions.{bad_level, bad_float, bad_axis, grid_judged_by, grid_judged}
use Rattle.array_spec.specs.Grid.{length_of}
use Rattle.border.specs.Border.{Border}
use Rattle.border.specs.Modes.{bad_constant_by}
use Rattle.window_spec.specs.Window.{bad_window_origin, bad_reach, bad_size, applied_origin}
use Rattle.direction.specs.Direction.{directed}
use Rattle.correlate_spec.specs.Correlated.{correlate1d_z}

unfoldable pub bad_weight : ℤ → Bool
bad_weight z = over largest_weight z

abbrev pub weights_judged : {A : Type 0} → (A → Bool) → List A → Judged
weights_judged bad w = (bad_size (length w), 5) ∷ (any_of bad w, 6) ∷ []

abbrev pub place_judged : {A : Type 0} → (A → Bool) → Bool → Border A → ℤ → ℕ → List ℕ → ℕ → Judged
place_judged bad convolution b o len ns a =
    (bad_window_origin len o, 7) ∷ (bad_axis ns a, 8) ∷ (bad_constant_by bad b, 9)
    ∷ (bad_reach b len (applied_origin convolution len o) (length_of ns a), 11) ∷ []

abbrev pub bad_correlate_sums : Bool → Border ℤ → ℤ → List ℤ → List ℕ → ℕ → List ℤ → Bool
bad_correlate_sums convolution b o w ns a cells = any_of beyond
    (correlate1d_z b (applied_origin convolution (length w) o) (directed convolution w) ns a cells)

abbrev pub correlate_judged : Bool → Border ℤ → ℤ → List ℤ → List ℕ → ℕ → List ℤ → ℕ → Judged
correlate_judged convolution b o w ns a cells out =
    grid_judged ns cells (out ∷ []) ++ weights_judged bad_weight w ++ place_judged bad_level convolution b o (length w) ns a
    ++ ((bad_correlate_sums convolution b o w ns a cells, 12) ∷ [])

abbrev pub correlate_judged_f : Bool → Border Float → ℤ → List Float → List ℕ → ℕ → List Float → ℕ → Judged
correlate_judged_f convolution b o w ns a cells out =
    grid_judged_by bad_float ns cells (out ∷ []) ++ weights_judged bad_float w
    ++ place_judged bad_float convolution b o (length w) ns a
