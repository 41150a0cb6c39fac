-- Conditions 9, 10, 11 and 12 of `pad` and `pad_to`, as document 01 words them, and the list of all that they refuse.
--   bad_constant mode              9: a constant that 3 would refuse
--   bad_count ns count             10: pad pairs neither 1 nor the axis count
--   over_pad p                     10: a pad over 64
--   padded_count ns pads count     the number of cells of the padded grid
--   bad_pads ns pads count out     10: a bad count, a pad over 64 among the pairs that count, over 32,768 padded cells,
--                                 or an output of another length
--   bad_pad_reach_on mode ns pads count a   11 of axis a
--   bad_pad_reach mode ns pads count   11: on some axis a pad over n − 1 under Reflect, over n under Symmetric and Wrap
--   bad_sum mode s                 a sum outside signed 64 bits: under Mean of the cells of s, under Median of an even
--                                 number the two middle levels'
--   bad_pad_sums mode ns pads count cells    12: such a sum of a lane that is summed, one whose coordinates on all later
--                                          axes are in the middle
--   pads_judged mode ns pads count cells out   conditions 9 to 12, in rising order; out is the output's length
--   pad_judged mode ns pads count cells out    what both calls refuse, in rising order
use Rattle.std.specs.Prelude.{ℕ, suc, ◌-◌, ◌/◌, ◌%◌, Bool, false, not, ◌||◌, ◌&&◌, List, [], ◌∷◌, ◌++◌, ltb, eqb, ℤ, ◌+ℤ◌, length, take}
use Rattle.numbers.specs.Limits.{longest_pad, most_padded_cells}
use Rattle.numbers.specs.Lists.{tabulate, any_of}
use Rattle.numbers.specs.Ranges.{beyond}
use Rattle.numbers.specs.Refusal.{Judged}
use Rattle.numbers.specs.Sums.{sum_of}
use Rattle.array_spec.specs.Conditions.{bad_level, grid_judged}
use Rattle.array_spec.specs.Grid.{cell_count, length_of, coordinate}
use Rattle.border.specs.declared.PadMode.{PadMode}
use Rattle.border.specs.declared.PadMode.TheVariants.{Constant, Edge, Maximum, Mean, Median, Minimum, Reflect, Symmetric, Wrap}
use Rattle.border.specs.Reach.{bad_pad}
use Rattle.statistics_spec.specs.Statistics.{ranked}
use Rattle.pad_spec.specs.Fill.{filler_of, rim_of, carries}
use Rattle.pad_spec.specs.Levels.{own_cells}
use Rattle.pad_spec.specs.Pads.{pair_of, lefts_of, rights_of, padded_shape, middle_from}
use Rattle.pad_spec.specs.declared.pairs.Pair.{Pair}

abbrev pub bad_constant : PadMode → Bool
bad_constant mode = carries bad_level (filler_of mode)

abbrev pub bad_count : List ℕ → ℕ → Bool
bad_count ns count = not (eqb count 1 || eqb count (length ns))

abbrev pub over_pad : Pair → Bool
over_pad p = ltb longest_pad p.left || ltb longest_pad p.right

abbrev pub padded_count : List ℕ → List Pair → ℕ → ℕ
padded_count ns pads count = cell_count (padded_shape ns (lefts_of ns pads count) (rights_of ns pads count))

unfoldable pub bad_pads : List ℕ → List Pair → ℕ → ℕ → Bool
bad_pads ns pads count out =
    bad_count ns count || (any_of over_pad (take count pads)
    || (ltb most_padded_cells (padded_count ns pads count) || not (eqb out (padded_count ns pads count))))

-- the cells of a lane do not tell which pads its border fills
abbrev pub bad_pad_reach_on : PadMode → List ℕ → List Pair → ℕ → ℕ → Bool
bad_pad_reach_on mode ns pads count a = bad_pad (rim_of mode []) (length_of ns a) (pair_of pads count a).left
    || bad_pad (rim_of mode []) (length_of ns a) (pair_of pads count a).right

unfoldable pub bad_pad_reach : PadMode → List ℕ → List Pair → ℕ → Bool
bad_pad_reach mode ns pads count = any_of (bad_pad_reach_on mode ns pads count) (tabulate (λ a. a) 0 (length ns))

abbrev pub bad_sum : PadMode → List ℤ → Bool
bad_sum (Constant c) s = false
bad_sum Edge s = false
bad_sum Maximum s = false
bad_sum Mean s = beyond (sum_of s)
bad_sum Median s = eqb (length s % 2) 0 && beyond (ranked s ((length s - 1) / 2) +ℤ ranked s (suc ((length s - 1) / 2)))
bad_sum Minimum s = false
bad_sum Reflect s = false
bad_sum Symmetric s = false
bad_sum Wrap s = false

unfoldable pub bad_pad_sums : PadMode → List ℕ → List Pair → ℕ → List ℤ → Bool
bad_pad_sums mode ns pads count cells =
    let lefts = lefts_of ns pads count in
    let ps = padded_shape ns lefts (rights_of ns pads count) in
    any_of (λ d. any_of (λ k. middle_from ns lefts (suc d) (coordinate ps k)
    && bad_sum mode (own_cells mode ns lefts cells d (coordinate ps k)))
    (tabulate (λ k. k) 0 (cell_count ps)))
    (tabulate (λ a. a) 0 (length ns))

abbrev pub pads_judged : PadMode → List ℕ → List Pair → ℕ → List ℤ → ℕ → Judged
pads_judged mode ns pads count cells out =
    (bad_constant mode, 9) ∷ (bad_pads ns pads count out, 10) ∷ (bad_pad_reach mode ns pads count, 11)
    ∷ (bad_pad_sums mode ns pads count cells, 12) ∷ []

abbrev pub pad_judged : PadMode → List ℕ → List Pair → ℕ → List ℤ → ℕ → Judged
pad_judged mode ns pads count cells out = grid_judged ns cells [] ++ pads_judged mode ns pads count cells out
