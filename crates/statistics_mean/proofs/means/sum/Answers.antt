-- `sum` meets its contract. The loop's invariant: `sum` and the sum of the levels that are left are the sum of all, and `sum` is at most
-- as many times the greatest level in size as levels were added, so it fits.
use Rattle.std.proofs.Common.{◌≡◌, ◌+◌, ◌*◌, ◌<◌, ℕ, List, length, false, get_or, drop, ℤ, pos, ◌+ℤ◌, ap, ◌∙◌, arith, w64, to_z}
use Rattle.numbers.specs.Sums.{sum_of}
use Rattle.numbers.proofs.Any.{every_at}
use Rattle.numbers.proofs.Partial.{Partial, partial_read}
use Rattle.numbers.proofs.Size.{Size, size_le}
use Rattle.statistics_spec.specs.Statistics.{unserved}
use Rattle.statistics_spec.proofs.Running.{sum_more}
use Rattle.statistics_spec.proofs.Served.{served_length, served_sized}
use Rattle.statistics_mean.proofs.means.sum.Goals as goal

module _ (l : List ℤ) (i : ℕ) {sum : ℤ} (served : unserved l ≡ false) (h : i < length l) (size : Size sum (i * 2147483647)) where
  -- what the next sum is: it fits, and it is the sum so far and the level
  next : Partial sum (get_or l i (pos 0)) (i * 2147483647 + 2147483647)
  next = partial_read size (every_at (λ x. Size x 2147483647) l (pos 0) (served_sized l served) i h) (omega (arith, served_length l served))

pub overflow_add-sum : goal.overflow_add-sum
overflow_add-sum c = (next c.args.line.now c.loop-z.z-index c.requires c.loop-z-test.true c.loop-z.invariant.1).fits

pub loop-z-preserved : goal.loop-z-preserved
loop-z-preserved c =
    let l = c.args.line.now in
    let i = c.loop-z.z-index in
    let n = next l i c.requires c.loop-z-test.true c.loop-z.invariant.1 in
    (ap (λ z. z +ℤ sum_of (drop (i + 1) l)) n.is ∙ sum_more l i (to_z w64 c.loop-z.sum-bits) _ c.loop-z.invariant.0 (pos 0) c.loop-z-test.true, size_le n.size (omega arith))
