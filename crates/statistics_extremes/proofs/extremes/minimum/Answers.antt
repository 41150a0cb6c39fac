-- `minimum` meets its contract, by the laws of Running at ≤. The loop's invariant: the least of the four running values and the levels from `i` on is the least of all.
-- The measure is what is left of the line. The answers stand in the order of the code; `search rules` closes the bounds of indexes and sums.
use Prim.Native.Nat.{◌+◌}
use mathlib.Core.Path.{refl}
use borrow.Author.Rules.{rules}
use lib.IntN.{pos}
use lib.Signed.{le_z}
use Rattle.std.specs.Int.{int_min}
use Rattle.numbers.proofs.IntOrder.{total_≤}
use Rattle.numbers.proofs.Read.{read}
use Rattle.statistics_extremes.proofs.Running.{min_is, next-read, extreme-none, four-first, four-more, four-last}
use Rattle.statistics_extremes.proofs.extremes.minimum.Goals as goal

pub returns-then-n-eq0 : goal.returns-then-n-eq0
returns-then-n-eq0 c = extreme-none le_z (pos 0) c.args.line.now (search rules)

pub loop-i-init : goal.loop-i-init
loop-i-init c = (refl, search rules, four-first le_z (pos 0) total_≤ c.args.line.now (search rules) (read (search rules) refl))

pub loop-i-preserved : goal.loop-i-preserved
loop-i-preserved c =
    let l = c.args.line.now in
    let i = c.loop-i.i in (
      c.loop-i.invariant.0,
      search rules,
      four-more le_z (pos 0) total_≤ c.loop-i.invariant.2 (search rules)
          (next-read le_z int_min min_is l i (search rules) c.min-a.type_inv c.min-a.ensures.value)
          (next-read le_z int_min min_is l (i + 1) (search rules) c.min-b.type_inv c.min-b.ensures.value)
          (next-read le_z int_min min_is l (i + 2) (search rules) c.min-c.type_inv c.min-c.ensures.value)
          (next-read le_z int_min min_is l (i + 3) (search rules) c.min-d.type_inv c.min-d.ensures.value),
    )

pub returns : goal.returns
returns c =
    four-last le_z int_min min_is c.args.line.now c.loop-i.invariant.2 c.min.type_inv c.min.ensures.value c.min-2.type_inv c.min-2.ensures.value
    c.min-3.type_inv c.min-3.ensures.value c.least_from.type_inv c.least_from.ensures
