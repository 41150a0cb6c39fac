-- Padded levels are no larger than the grid's, so no sum of a lane leaves 64 bits: condition 12 never holds where 1 and 3 do not.
-- Assumes nothing.
use mathlib.Core.Path.{◌≡◌, refl, ap, ◌∙◌}
use mathlib.Core.Bool.{false, ◌&&◌, and-false}
use mathlib.Core.List.{List}
use Prim.Native.Nat.{ℕ, zero, suc, ◌+◌, ◌-◌, ◌/◌, ◌%◌, ◌≤◌}
use native.Mathlib.Nat.{mul-le-mul, le_refl}
use native.Mathlib.Omega.{arith}
use lib.Dec.{eqb}
use lib.IntN.{ℤ, ◌+ℤ◌}
use lib.ListN.{length, get_or}
use Rattle.numbers.specs.Lists.{tabulate, any_of}
use Rattle.numbers.specs.Ranges.{beyond}
use Rattle.numbers.specs.Sums.{sum_of}
use Rattle.numbers.proofs.Any.{any_never}
use Rattle.numbers.proofs.Size.{Size, Sized, size_inside, size_sum, size_add, member_sized, beyond_sized}
use Rattle.numbers.proofs.Tabulate.{length-tabulate, every_table}
use Rattle.array_spec.specs.Conditions.{bad_shape, bad_level}
use Rattle.array_spec.specs.Grid.{cell_count, length_of, place_of, coordinate, moved}
use Rattle.array_spec.proofs.Judged.{levels_sized}
use Rattle.array_spec.proofs.Shapes.{shape-accepted}
use Rattle.border.specs.declared.PadMode.{PadMode}
use Rattle.border.specs.declared.PadMode.TheVariants.{Constant, Edge, Maximum, Mean, Median, Minimum, Reflect, Symmetric, Wrap}
use Rattle.pad_line.proofs.Sizes.{SizedBorder, padded_sized}
use Rattle.statistics_spec.specs.Statistics.{ranked}
use Rattle.statistics_spec.proofs.Sizes.{size_minimum, size_maximum, size_mean, size_ranked, size_median}
use Rattle.pad_spec.specs.Fill.{filler_of, level_of, border_by, rim_of, carries}
use Rattle.pad_spec.specs.declared.rim.Filler.{Filler}
use Rattle.pad_spec.specs.declared.rim.Statistic.{Statistic}
use Rattle.pad_spec.specs.Conditions.{bad_constant, bad_sum, bad_pad_sums}
use Rattle.pad_spec.specs.Levels.{level_to, own_cells}
use Rattle.pad_spec.specs.Pads.{lefts_of, rights_of, padded_shape, middle_from}
use Rattle.pad_spec.specs.declared.pairs.Pair.{Pair}

-- the greatest size of a level
abbrev pub limit : ℕ
limit = 2147483647

-- ---- the level of a lane that is extended
level_sized : (which : Statistic) (s : List ℤ) → Sized limit s → Size (level_of which s) limit
level_sized Statistic.Maximum s h = size_maximum limit s h
level_sized Statistic.Mean s h = size_mean limit s h
level_sized Statistic.Median s h = size_median limit s h
level_sized Statistic.Minimum s h = size_minimum limit s h

rim_sized : (f : Filler) → carries bad_level f ≡ false → (s : List ℤ) → Sized limit s → SizedBorder limit (border_by f s)
unfolding bad_level
rim_sized (Filler.Level c) e s h = size_inside limit c e
rim_sized (Filler.Cells m) e s h = tt
rim_sized (Filler.Statistic which) e s h = level_sized which s h

module _ (mode : PadMode) (ns lefts : List ℕ) (cells : List ℤ) (c : bad_constant mode ≡ false) (h : Sized limit cells) where
  pub size_level : (d : ℕ) (q : ℕ → ℕ) → Size (level_to mode ns lefts cells d q) limit
  unfolding level_to
  size_level zero q = member_sized limit cells h (place_of ns (λ a. q a - get_or lefts a 0))
  size_level (suc d) q =
      let own = own_cells mode ns lefts cells d q in
      let s = every_table (λ x. Size x limit) (λ i. level_to mode ns lefts cells d (moved d (get_or lefts d 0 + i) q)) 0 (length_of ns d) (λ i. size_level d (moved d (get_or lefts d 0 + i) q)) in
      padded_sized limit (rim_of mode own) (rim_sized (filler_of mode) c own s) (get_or lefts d 0) own s (q d)

  pub size_own : (d : ℕ) (q : ℕ → ℕ) → Sized limit (own_cells mode ns lefts cells d q)
  size_own d q = every_table (λ x. Size x limit) (λ i. level_to mode ns lefts cells d (moved d (get_or lefts d 0 + i) q)) 0 (length_of ns d) (λ i. size_level d (moved d (get_or lefts d 0 + i) q))

-- ---- sums
sum_within : (s : List ℤ) → length s ≤ 1024 → Sized limit s → beyond (sum_of s) ≡ false
sum_within s n h = beyond_sized (sum_of s) (size_sum limit s h) (omega (arith, mul-le-mul n (le_refl limit)))

middle_within : (s : List ℤ) → Sized limit s → (i j : ℕ) → beyond (ranked s i +ℤ ranked s j) ≡ false
middle_within s h i j = beyond_sized (ranked s i +ℤ ranked s j) (size_add (size_ranked limit s h i) (size_ranked limit s h j)) (omega arith)

sum_fits : (mode : PadMode) (s : List ℤ) → length s ≤ 1024 → Sized limit s → bad_sum mode s ≡ false
sum_fits (Constant c) s n h = refl
sum_fits Edge s n h = refl
sum_fits Maximum s n h = refl
sum_fits Mean s n h = sum_within s n h
sum_fits Median s n h = ap (λ t. eqb (length s % 2) 0 && t) (middle_within s h ((length s - 1) / 2) (suc ((length s - 1) / 2))) ∙ and-false (eqb (length s % 2) 0)
sum_fits Minimum s n h = refl
sum_fits Reflect s n h = refl
sum_fits Symmetric s n h = refl
sum_fits Wrap s n h = refl

-- condition 12 never holds
pub no_bad_sums : (mode : PadMode) (ns : List ℕ) (pads : List Pair) (count : ℕ) (cells : List ℤ) → bad_shape ns ≡ false → any_of bad_level cells ≡ false → bad_constant mode ≡ false
    → bad_pad_sums mode ns pads count cells ≡ false
unfolding bad_pad_sums
no_bad_sums mode ns pads count cells s l c =
    any_never _ (tabulate (λ a. a) 0 (length ns)) (λ d. any_never _ (tabulate (λ k. k) 0 (cell_count ps)) (λ k. at d k))
  where
    ps : List ℕ
    ps = padded_shape ns (lefts_of ns pads count) (rights_of ns pads count)

    short : (d k : ℕ) → length (own_cells mode ns (lefts_of ns pads count) cells d (coordinate ps k)) ≤ 1024
    short d k = omega (
      arith,
      length-tabulate (λ i. level_to mode ns (lefts_of ns pads count) cells d (moved d (get_or (lefts_of ns pads count) d 0 + i) (coordinate ps k))) 0 (length_of ns d),
      (shape-accepted ns s).short d,
    )

    at : (d k : ℕ) → middle_from ns (lefts_of ns pads count) (suc d) (coordinate ps k) && bad_sum mode (own_cells mode ns (lefts_of ns pads count) cells d (coordinate ps k)) ≡ false
    at d k =
        ap (λ t. middle_from ns (lefts_of ns pads count) (suc d) (coordinate ps k) && t) (sum_fits mode (own_cells mode ns (lefts_of ns pads count) cells d (coordinate ps k)) (short d k)
        (size_own mode ns (lefts_of ns pads count) cells c (levels_sized cells l) d (coordinate ps k)))
        ∙ and-false (middle_from ns (lefts_of ns pads count) (suc d) (coordinate ps k))
