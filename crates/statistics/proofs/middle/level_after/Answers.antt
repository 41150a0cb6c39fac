-- `level_after` meets its contract, by the laws of NextRank.
use Prim.Native.Nat.{◌+◌, ◌≤◌}
use mathlib.Core.Path.{◌≡◌, ap, ◌∙◌}
use mathlib.Core.Bool.{false}
use mathlib.Core.List.{List}
use native.Mathlib.Omega.{arith}
use lib.IntN.{ℤ, pos, nat_abs}
use lib.Signed.{le_z}
use mir.Syntax.{w32, w64}
use mir.Val.{to_z, of_z}
use mir.ValLaws.{to_z-of_z}
use Rattle.numbers.proofs.IntOrder.{total_≤}
use Rattle.numbers.proofs.Read.{read_at_lem}
use Rattle.statistics_spec.specs.Sorting.{least_above}
use Rattle.statistics_spec.specs.Statistics.{maximum_of, unserved}
use Rattle.statistics_spec.proofs.Bisection.{ranked-below}
use Rattle.statistics_spec.proofs.NextRank.{next_again, next_above}
use Rattle.statistics_spec.proofs.Offset.{level_fits, level-read}
use Rattle.statistics_spec.proofs.Served.{served_length, served_sized}
use Rattle.statistics_spec.proofs.Sizes.{size_maximum}
use Rattle.statistics.proofs.middle.level_after.Goals as goal

high_size : (l : List ℤ) → unserved l ≡ false → nat_abs (maximum_of l) ≤ 2147483647
high_size l served = (size_maximum 2147483647 l (served_sized l served)).size

pub count_at_most-requires : goal.count_at_most-requires
count_at_most-requires c = served_length c.args.levels.now c.requires.levels_value

pub returns-then-k-count_at_most : goal.returns-then-k-count_at_most
returns-then-k-count_at_most c =
    next_again le_z total_≤ (pos 0) c.args.levels.now c.args.k c.requires.k_in_bounds _ (to_z-of_z w32 _ c.ranges.lower ∙ c.requires.lower_value) (omega (arith, c.count_at_most.ensures, c.if-k-count_at_most.true))

pub overflow_cast-high : goal.overflow_cast-high
overflow_cast-high c = level_fits w32 (omega arith) _ (high_size c.args.levels.now c.requires.levels_value) (to_z-of_z w64 _ c.ranges.high ∙ c.requires.high_value)

pub returns : goal.returns
returns c =
    let l = c.args.levels.now in
    read_at_lem w32 c.least_above.type_inv (c.least_above.ensures ∙ ap (λ t. least_above le_z (to_z w32 (of_z w32 c.args.lower)) t l)
    (level-read w32 (omega arith) (maximum_of l) (high_size c.args.levels.now c.requires.levels_value) (to_z-of_z w64 _ c.ranges.high ∙ c.requires.high_value)))
    ∙ next_above le_z total_≤ (pos 0) l c.args.k c.requires.k_in_bounds _ (to_z-of_z w32 _ c.ranges.lower ∙ c.requires.lower_value) (maximum_of l) (ranked-below l (c.args.k + 1) c.requires.k_in_bounds).le
    (omega (arith, c.count_at_most.ensures, c.if-k-count_at_most.false))
