-- `count_up` meets its contract: each cell is its own number.
use native.Mathlib.Omega.{arith}
use mir.Facts.{to_z_pos}
use mir.Syntax.{w64}
use lib.IntN.{pos}
use Rattle.numbers.proofs.Stored.{front-none, front-more, front-all}
use Rattle.correlate_grid_axes.proofs.axes.count_up.Goals as goal

pub loop-i-init : goal.loop-i-init
loop-i-init c = front-none (pos 0) _ _

pub loop-i-preserved : goal.loop-i-preserved
loop-i-preserved c = let l = c.loop-i in
    front-more (pos 0) pos _ (omega arith) l.invariant (to_z_pos w64 {n = l.i} (omega arith))

pub returns : goal.returns
returns c = front-all (pos 0) _ (omega arith) c.loop-i.invariant
