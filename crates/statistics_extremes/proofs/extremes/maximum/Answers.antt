-- `maximum` meets its contract, by the laws of Running at ≥. The loop's invariant: the greatest of the four running values and the levels from `i` on is the greatest of all.
-- The measure is what is left of the line. The answers stand in the order of the code; `search rules` closes the bounds of indexes and sums.
use Prim.Native.Nat.{◌+◌}
use mathlib.Core.Path.{refl}
use borrow.Author.Rules.{rules}
use lib.IntN.{pos}
use Rattle.std.specs.Int.{int_max}
use Rattle.numbers.proofs.IntOrder.{total_≥}
use Rattle.numbers.proofs.Read.{read}
use Rattle.numbers.specs.Order.{at_least}
use Rattle.statistics_extremes.proofs.Running.{max_is, next-read, extreme-none, four-first, four-more, four-last}
use Rattle.statistics_extremes.proofs.extremes.maximum.Goals as goal

pub returns-then-n-eq0 : goal.returns-then-n-eq0
returns-then-n-eq0 c = extreme-none at_least (pos 0) c.args.line.now (search rules)

pub loop-i-init : goal.loop-i-init
loop-i-init c = (refl, search rules, four-first at_least (pos 0) total_≥ c.args.line.now (search rules) (read (search rules) refl))

pub loop-i-preserved : goal.loop-i-preserved
loop-i-preserved c =
    let l = c.args.line.now in
    let i = c.loop-i.i in (
      c.loop-i.invariant.0,
      search rules,
      four-more at_least (pos 0) total_≥ c.loop-i.invariant.2 (search rules)
          (next-read at_least int_max max_is l i (search rules) c.max-a.type_inv c.max-a.ensures.value)
          (next-read at_least int_max max_is l (i + 1) (search rules) c.max-b.type_inv c.max-b.ensures.value)
          (next-read at_least int_max max_is l (i + 2) (search rules) c.max-c.type_inv c.max-c.ensures.value)
          (next-read at_least int_max max_is l (i + 3) (search rules) c.max-d.type_inv c.max-d.ensures.value),
    )

pub returns : goal.returns
returns c =
    four-last at_least int_max max_is c.args.line.now c.loop-i.invariant.2 c.max.type_inv c.max.ensures.value c.max-2.type_inv c.max-2.ensures.value
    c.max-3.type_inv c.max-3.ensures.value c.greatest_from.type_inv c.greatest_from.ensures
