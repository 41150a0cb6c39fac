-- `count_at_most` meets its contract. The loop's invariant: `count` and the count of the levels that are left are the count of all.
use Prim.Native.Nat.{ℕ, ◌+◌}
use mathlib.Core.Path.{◌≡◌, refl, ap, ◌∙◌}
use native.Mathlib.Omega.{arith}
use borrow.Author.Rules.{rules}
use lib.IntN.{pos}
use lib.ListN.{drop, get_or}
use lib.Signed.{le_z}
use mir.Syntax.{w32}
use mir.Val.{to_z, of_z}
use mir.ValLaws.{to_z-of_z}
use Rattle.numbers.proofs.Read.{read_at_lem}
use Rattle.statistics_spec.specs.Sorting.{at_most}
use Rattle.statistics_spec.proofs.Running.{count_hit, count_miss, count_last}
use Rattle.statistics.proofs.middle.count_at_most.Goals as goal
use Rattle.statistics.proofs.middle.count_at_most.Goals.{then-x-z, else-x-z}

pub loop-x-preserved : goal.loop-x-preserved
loop-x-preserved c =
    let l = c.args.levels.now in
    let k = c.loop-x in
    let e : to_z w32 (of_z w32 (get_or l k.x-index (pos 0))) ≡ get_or l k.x-index (pos 0) = read_at_lem w32 (search rules) refl in
    let left : ℕ → ℕ = λ n. n + at_most le_z (to_z w32 (of_z w32 c.args.z)) (drop (k.x-index + 1) l) in
    elim c.if-x-z.branch [
      | then-x-z w ↦ (
        omega (arith, w.count-is),
        ap left w.count-is ∙ count_hit le_z _ l k.x-index _ _ k.invariant.1 (pos 0) c.loop-x-test.true (rw e at w.if-x-z.true),
      )
      | else-x-z w ↦ (
        omega (arith, w.count-is),
        ap left w.count-is ∙ count_miss le_z _ l k.x-index _ _ k.invariant.1 (pos 0) c.loop-x-test.true (rw e at w.if-x-z.false),
      )
    ]

pub returns : goal.returns
returns c =
    let a = c.args in
    count_last le_z _ _ _ _ _ c.loop-x.invariant.1 c.loop-x-test.false ∙ ap (λ y. at_most le_z y a.levels.now) (to_z-of_z w32 a.z c.ranges.z)
