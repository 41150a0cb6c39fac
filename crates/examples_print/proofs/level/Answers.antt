-- `level` is safe: below 0 the size of z is −(z + 1) and one more.
use mathlib.Core.Path.{ap}
use native.Mathlib.Omega.{arith}
use lib.IntN.{nat_abs}
use Rattle.numbers.proofs.Sign.{below-next_fits, below-turned_fits, below-turned, below_casts, on_casts}
use Rattle.examples_print.proofs.level.Goals as goal

pub overflow_add-m : goal.overflow_add-m
overflow_add-m g c = below-next_fits _ c.ranges.z c.if-z-lt0.true

pub overflow_sub-m : goal.overflow_sub-m
overflow_sub-m g c = below-turned_fits _ c.ranges.z c.if-z-lt0.true

pub overflow_cast-m : goal.overflow_cast-m
overflow_cast-m g c = below_casts _ c.ranges.z c.if-z-lt0.true

pub overflow_add-m-then-z-lt0 : goal.overflow_add-m-then-z-lt0
overflow_add-m-then-z-lt0 g c = let f = c.ranges.z in omega (arith, ap nat_abs (below-turned _ f c.if-z-lt0.true), f.sfits)

pub overflow_cast-z : goal.overflow_cast-z
overflow_cast-z g c = on_casts _ c.ranges.z c.if-z-lt0.false
