-- `level_of_rank` meets its contract, by the laws of Bisection. The loop's invariant: the offset of the level at place `k` of the sorted line
-- is between `from` and `to`, and `to` is no further than the greatest level. The measure is how far these are apart. Where it ends early, `first_above` of NextRank.
use Prim.Native.Nat.{ℕ, ◌+◌, ◌-◌, ◌/◌, ◌<◌}
use mathlib.Core.Path.{◌≡◌, refl, sym, ap, ◌∙◌}
use mathlib.Core.Bool.{false}
use mathlib.Core.List.{List}
use native.Mathlib.Omega.{arith}
use borrow.Author.Rules.{rules}
use lib.IntN.{ℤ, nat_abs, ◌+ℤ◌, ◌-ℤ◌, pos}
use lib.ListN.{length}
use lib.Signed.{le_z}
use mir.Syntax.{w32, w64}
use mir.Val.{SFits, to_z, of_z}
use mir.ValLaws.{to_z-of_z}
use Rattle.numbers.proofs.IntOrder.{total_≤}
use Rattle.numbers.proofs.Read.{read_at_lem}
use Rattle.statistics_spec.specs.Sorting.{at_most, least_above}
use Rattle.statistics_spec.specs.Statistics.{minimum_of, maximum_of, ranked, unserved}
use Rattle.statistics_spec.proofs.Bisection.{Ends, ends, ends_apart, ranked_offset, offset_most, offset_reached, offset_passed, offset_size}
use Rattle.statistics_spec.proofs.NextRank.{first_above}
use Rattle.statistics_spec.proofs.Offset.{level_fits, level-read}
use Rattle.statistics_spec.proofs.Served.{served_length}
use Rattle.statistics.proofs.middle.level_of_rank.Goals as goal

-- the ends, as the machine reads them
found : (l : List ℤ) (k : ℕ) {low high : ℤ} → SFits w64 low → SFits w64 high → unserved l ≡ false → low ≡ minimum_of l → high ≡ maximum_of l → k < length l
    → Ends l k (to_z w64 (of_z w64 low)) (to_z w64 (of_z w64 high))
found l k f g served p q b = ends l k served b (to_z-of_z w64 _ f ∙ p) (to_z-of_z w64 _ g ∙ q)

pub distance-to-requires : goal.distance-to-requires
distance-to-requires c = let E = (found c.args.levels.now c.args.k c.ranges.low c.ranges.high c.requires.levels_value c.requires.low_value c.requires.high_value c.requires.k_in_bounds) in record { low_bound = E.low_size; high_bound = E.high_size; low_le_high = E.low_high }

pub loop-from-init : goal.loop-from-init
loop-from-init c =
    let E = (found c.args.levels.now c.args.k c.ranges.low c.ranges.high c.requires.levels_value c.requires.low_value c.requires.high_value c.requires.k_in_bounds) in (
      search rules,
      omega (arith, c.distance-to.ensures, offset_most c.args.levels.now c.args.k c.requires.k_in_bounds _ E.low-ranked _ E.low_high E.ranked_high),
      omega (arith, c.distance-to.ensures),
    )

pub overflow_add-middle : goal.overflow_add-middle
overflow_add-middle c = omega (arith, ends_apart (found c.args.levels.now c.args.k c.ranges.low c.ranges.high c.requires.levels_value c.requires.low_value c.requires.high_value c.requires.k_in_bounds))

pub above-z-requires : goal.above-z-requires
above-z-requires c = let E = (found c.args.levels.now c.args.k c.ranges.low c.ranges.high c.requires.levels_value c.requires.low_value c.requires.high_value c.requires.k_in_bounds) in record { low_bound = E.low_size; offset_bound = omega (arith, ends_apart E); offset_bound_2 = offset_size E _ (omega arith) }

pub count_at_most-count-requires : goal.count_at_most-count-requires
count_at_most-count-requires c = served_length c.args.levels.now c.requires.levels_value

pub loop-from-preserved-then-k-count : goal.loop-from-preserved-then-k-count
loop-from-preserved-then-k-count c =
    let m = c.loop-from.from + (c.loop-from.to - c.loop-from.from) / 2 in
    let h = offset_reached c.args.levels.now c.args.k c.requires.k_in_bounds _ (found c.args.levels.now c.args.k c.ranges.low c.ranges.high c.requires.levels_value c.requires.low_value c.requires.high_value c.requires.k_in_bounds).low-ranked m (omega (arith, c.count_at_most-count.ensures ∙ ap (λ z. at_most le_z z c.args.levels.now) (read_at_lem w32 c.above-z.type_inv c.above-z.ensures), c.if-k-count.true)) in
    (omega arith, omega (arith, h), omega arith)

pub overflow_cast-high : goal.overflow_cast-high
overflow_cast-high c = level_fits w32 (omega arith) _ (found c.args.levels.now c.args.k c.ranges.low c.ranges.high c.requires.levels_value c.requires.low_value c.requires.high_value c.requires.k_in_bounds).high_size refl

pub returns-then-count-k : goal.returns-then-count-k
returns-then-count-k c =
    let l = c.args.levels.now in
    let E = (found c.args.levels.now c.args.k c.ranges.low c.ranges.high c.requires.levels_value c.requires.low_value c.requires.high_value c.requires.k_in_bounds) in
    read_at_lem w32 c.least_above.type_inv (c.least_above.ensures ∙ ap (λ t. least_above le_z (to_z w32 (of_z w32 c.above-z.result)) t l) (level-read w32 (omega arith) _ E.high_size refl))
    ∙ first_above le_z total_≤ (pos 0) l c.args.k c.requires.k_in_bounds _ (omega (arith, c.count_at_most-count.ensures, c.if-count-k.true)) _ E.ranked_high.le

pub loop-from-preserved : goal.loop-from-preserved
loop-from-preserved c =
    let m = c.loop-from.from + (c.loop-from.to - c.loop-from.from) / 2 in
    let h = offset_passed c.args.levels.now c.args.k c.requires.k_in_bounds _ (found c.args.levels.now c.args.k c.ranges.low c.ranges.high c.requires.levels_value c.requires.low_value c.requires.high_value c.requires.k_in_bounds).low-ranked m (omega (arith, c.count_at_most-count.ensures ∙ ap (λ z. at_most le_z z c.args.levels.now) (read_at_lem w32 c.above-z.type_inv c.above-z.ensures), c.if-k-count.false)) in
    (omega (arith, h), omega arith, omega arith)

pub above-requires : goal.above-requires
above-requires c = let E = (found c.args.levels.now c.args.k c.ranges.low c.ranges.high c.requires.levels_value c.requires.low_value c.requires.high_value c.requires.k_in_bounds) in record { low_bound = E.low_size; offset_bound = omega (arith, ends_apart E); offset_bound_2 = offset_size E _ (omega arith) }

pub returns : goal.returns
returns c =
    let low = to_z w64 (of_z w64 c.args.low) in
    let e : c.loop-from.from ≡ nat_abs (ranked c.args.levels.now c.args.k -ℤ low) = omega arith in
    read_at_lem w32 c.above.type_inv c.above.ensures ∙ ap (λ (n : ℕ). low +ℤ pos n) e ∙ sym (ranked_offset c.args.levels.now c.args.k c.requires.k_in_bounds low (found c.args.levels.now c.args.k c.ranges.low c.ranges.high c.requires.levels_value c.requires.low_value c.requires.high_value c.requires.k_in_bounds).low-ranked)
