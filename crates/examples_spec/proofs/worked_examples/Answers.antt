-- `worked_examples` meets its contract: every example holds by computing, T9 of every mask by one sum; the rules are those of the crates below.
use Prim.Native.Nat.{ℕ, ◌+◌}
use mathlib.Core.Path.{◌≡◌, refl, ap}
use mathlib.Core.Bool.{Bool}
use mathlib.Core.List.{[], ◌∷◌}
use native.Mathlib.Omega.{arith}
use lib.Dec.{ltb}
use lib.ListN.{replicate}
use Rattle.numbers.specs.Lists.{tabulate}
use Rattle.numbers.specs.Windows.{window_of}
use Rattle.array_spec.specs.Conditions.{bad_shape, grid_count, bad_level}
use Rattle.array_spec.specs.Grid.{place_of, coordinate}
use Rattle.lanes.specs.Lanes.{lane_at, along_axis}
use Rattle.border.specs.Border.{cell_for, extended_lane, all_inside, outer_constants, extended_grid_by}
use Rattle.window_spec.specs.Origin.{bad_origin}
use Rattle.pad_line.specs.Line.{padded_at, padded_line}
use Rattle.statistics_spec.specs.Sorting.{inserted, sorted}
use Rattle.statistics_spec.specs.Statistics.{median_of}
use Rattle.pad_spec.specs.Levels.{level_to, padded_grid}
use Rattle.min_max_spec.specs.Call.{first_in, last_in, number_of, grid_number}
use Rattle.min_max_spec.specs.Run.{answer_of, after, run}
use Rattle.correlate_spec.specs.Weighed.{summed}
use Rattle.correlate_spec.specs.Correlated.{correlated_by}
use Rattle.correlate_spec.specs.Convolved.{convolved_at, convolved_by}
use Rattle.correlate_spec.specs.Kernel.{kernel_sum, kernel_answer, convolved_sum}
use Rattle.gradient_spec.specs.Gradient.{gradient_to}
use Rattle.median_spec.specs.Around.{one, cells_around, true_around, median_answer}
use Rattle.examples_spec.specs.Examples.{WorkedExamples}
use Rattle.examples_spec.proofs.worked_examples.Goals as goal

-- the eight cells of a mask, as the definition adds them: planes of rows
together : (a b c d e f g h : ℕ) → a + (b + 0) + (c + (d + 0) + 0) + (e + (f + 0) + (g + (h + 0) + 0) + 0) ≡ a + b + c + d + e + f + g + h
together a b c d e f g h = omega arith

eight : (a b c d e f g h : Bool)
    → median_answer (2 ∷ 2 ∷ 2 ∷ []) (a ∷ b ∷ c ∷ d ∷ e ∷ f ∷ g ∷ h ∷ []) ≡ replicate 8 (ltb 3 (one a + one b + one c + one d + one e + one f + one g + one h))
unfolding tabulate place_of coordinate cells_around true_around median_answer
eight a b c d e f g h = ap (λ n. replicate 8 (ltb 3 n)) (together (one a) (one b) (one c) (one d) (one e) (one f) (one g) (one h))

examples : WorkedExamples
unfolding tabulate window_of bad_shape grid_count bad_level place_of coordinate lane_at along_axis cell_for extended_lane all_inside outer_constants extended_grid_by bad_origin
    padded_at padded_line inserted sorted median_of level_to padded_grid first_in last_in number_of grid_number answer_of after run summed correlated_by convolved_at convolved_by kernel_sum kernel_answer convolved_sum
    gradient_to
examples = record { t1 = refl; t2 = refl; t3 = refl; t4 = refl; t5 = refl; t6 = refl; t7 = refl; t8 = refl; t9 = eight; t10 = refl }

pub returns : goal.returns
returns c = (examples, c.one_border.ensures, c.order_of_axes.ensures, c.convolution_is_correlation.ensures)
