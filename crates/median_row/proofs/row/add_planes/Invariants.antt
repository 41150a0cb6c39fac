-- `add_planes` meets its contract: each turn adds the rows of one plane.
use Prim.Native.Nat.{◌-◌}
use lib.ListN.{length}
use Rattle.median_spec.specs.ByRows.{plane_count}
use Rattle.median_spec.proofs.Adding.{Adding}
use Rattle.median_row.proofs.row.add_planes.Given as goal

abbrev pub invariant-loop-x : goal.invariant-loop-x
invariant-loop-x l = Adding (plane_count l.mask l.rows (length l.initial.counts) l.ys) l.fn.xs.from l.fn.xs.to l.initial.counts l.x l.counts
