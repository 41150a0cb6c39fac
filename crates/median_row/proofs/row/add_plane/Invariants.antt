-- `add_plane` meets its contract: each turn adds one row of the plane.
use Prim.Native.Nat.{◌-◌}
use lib.ListN.{length}
use Rattle.median_spec.specs.ByRows.{cell_of}
use Rattle.median_spec.proofs.Adding.{Adding}
use Rattle.median_row.proofs.row.add_plane.Given as goal

abbrev pub invariant-loop-y : goal.invariant-loop-y
invariant-loop-y l = Adding (cell_of l.mask l.rows (length l.initial.counts) l.x) l.fn.ys.from l.fn.ys.to l.initial.counts l.y l.counts
