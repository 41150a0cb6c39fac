-- `middle_level` meets its contract: the level by rank, or the two by rank over 2.
use Prim.Native.Nat.{ℕ, ◌+◌, ◌-◌, ◌/◌, ◌≤◌}
use mathlib.Core.Path.{◌≡◌, ap, subst⁻¹, ◌∙◌}
use mathlib.Core.Bool.{false}
use mathlib.Core.List.{List}
use native.Mathlib.Omega.{arith}
use lib.IntN.{ℤ, pos, nat_abs, ◌+ℤ◌}
use lib.ListN.{length}
use lib.Signed.{quot_z}
use mir.Syntax.{w32, w64}
use mir.Val.{SFits, to_z, of_z}
use mir.ValLaws.{to_z-of_z}
use Rattle.numbers.proofs.Quotient.{quot_asked, quot_given}
use Rattle.numbers.proofs.Read.{read_at_lem}
use Rattle.numbers.proofs.Size.{size_add, fits_size}
use Rattle.statistics_spec.specs.Statistics.{ranked, unserved}
use Rattle.statistics_spec.proofs.Computed.{median_odd, median_even}
use Rattle.statistics_spec.proofs.Offset.{level_fits, level-read}
use Rattle.statistics_spec.proofs.Served.{served_sized}
use Rattle.statistics_spec.proofs.Sizes.{size_ranked}
use Rattle.statistics.proofs.middle.middle_level.Goals as goal
use Rattle.statistics.proofs.middle.middle_level.Goals.{After-level_after-upper}

ranked_size : (l : List ℤ) → unserved l ≡ false → (k : ℕ) → nat_abs (ranked l k) ≤ 2147483647
ranked_size l served k = (size_ranked 2147483647 l (served_sized l served) k).size

upper_is : (c : After-level_after-upper) → let l = c.args.levels.now in to_z w32 (of_z w32 c.level_after-upper.result) ≡ ranked l ((length l - 1) / 2 + 1)
upper_is c = read_at_lem w32 c.level_after-upper.type_inv c.level_after-upper.ensures

pub level_of_rank-lower-requires : goal.level_of_rank-lower-requires
level_of_rank-lower-requires c = record {
  levels_value = c.requires.levels_value;
  low_value = to_z-of_z w64 _ c.ranges.low ∙ c.requires.low_value;
  high_value = to_z-of_z w64 _ c.ranges.high ∙ c.requires.high_value;
  k_in_bounds = omega arith;
}

pub overflow_cast-result : goal.overflow_cast-result
overflow_cast-result c = level_fits w64 (omega arith) (ranked c.args.levels.now ((length c.args.levels.now - 1) / 2)) (ranked_size c.args.levels.now c.requires.levels_value _) (read_at_lem w32 c.level_of_rank-lower.type_inv c.level_of_rank-lower.ensures)

pub returns-then-n-eq1 : goal.returns-then-n-eq1
returns-then-n-eq1 c =
    let l = c.args.levels.now in
    level-read w64 (omega arith) (ranked l ((length l - 1) / 2)) (ranked_size c.args.levels.now c.requires.levels_value _) (read_at_lem w32 c.level_of_rank-lower.type_inv c.level_of_rank-lower.ensures) ∙ median_odd l c.if-n-eq1.true

pub level_after-upper-requires : goal.level_after-upper-requires
level_after-upper-requires c = record {
  levels_value = c.requires.levels_value;
  k_in_bounds = omega (arith, c.if-n-eq1.false);
  lower_value = read_at_lem w32 c.level_of_rank-lower.type_inv c.level_of_rank-lower.ensures;
  high_value = to_z-of_z w64 _ c.ranges.high ∙ c.requires.high_value;
}

pub overflow_cast-result-2 : goal.overflow_cast-result-2
overflow_cast-result-2 c = level_fits w64 (omega arith) (ranked c.args.levels.now ((length c.args.levels.now - 1) / 2)) (ranked_size c.args.levels.now c.requires.levels_value _)
    (read_at_lem w32 c.level_of_rank-lower.type_inv c.level_of_rank-lower.ensures)

pub overflow_cast-result-3 : goal.overflow_cast-result-3
overflow_cast-result-3 c = level_fits w64 (omega arith) (ranked c.args.levels.now ((length c.args.levels.now - 1) / 2 + 1)) (ranked_size c.args.levels.now c.requires.levels_value _) (upper_is c)

-- the sum of the two, which fits
middles : (c : After-level_after-upper) → let l = c.args.levels.now in
    to_z w64 (of_z w64 (to_z w32 (of_z w32 c.level_of_rank-lower.result))) +ℤ to_z w64 (of_z w64 (to_z w32 (of_z w32 c.level_after-upper.result)))
    ≡ ranked l ((length l - 1) / 2) +ℤ ranked l ((length l - 1) / 2 + 1)
middles c =
    let l = c.args.levels.now in
    (λ i. level-read w64 (omega arith) (ranked l ((length l - 1) / 2)) (ranked_size c.args.levels.now c.requires.levels_value _) (read_at_lem w32 c.level_of_rank-lower.type_inv c.level_of_rank-lower.ensures) i
    +ℤ level-read w64 (omega arith) (ranked l ((length l - 1) / 2 + 1)) (ranked_size c.args.levels.now c.requires.levels_value _) (upper_is c) i)

pub overflow_add-result : goal.overflow_add-result
overflow_add-result c =
    let l = c.args.levels.now in
    let size = size_ranked 2147483647 l (served_sized l c.requires.levels_value) in
    subst⁻¹ (SFits w64) (middles c) (fits_size (size_add (size ((length l - 1) / 2)) (size ((length l - 1) / 2 + 1))) (omega arith))

pub nonzero_div-result : goal.nonzero_div-result
nonzero_div-result c = (omega arith, quot_asked w64 _ (overflow_add-result c) 2 (omega arith))

pub returns : goal.returns
returns c = quot_given w64 _ (overflow_add-result c) 2 (omega arith) ∙ ap (λ z. quot_z z (pos 2)) (middles c) ∙ median_even c.args.levels.now c.if-n-eq1.false
