-- `correlate_lane` meets its contract: the padded lane, summed.
use mathlib.Core.Path.{sym, subst}
use mathlib.Core.List.{List}
use Prim.Native.Nat.{◌≤◌}
use lib.IntN.{ℤ, pos}
use lib.ListN.{length}
use lib.Seq.{length-take-le}
use Rattle.symmetry_spec.specs.declared.SymmetryState.TheVariants.{NonSymmetric}
use Rattle.direction.specs.Direction.{directed}
use Rattle.pad_line.proofs.OneLane.{front_is, lane-filtered}
use Rattle.correlate_spec.specs.Weighed.{whole_ops, weighed_line}
use Rattle.correlate_spec.specs.Sizes.{LineSumNeeds}
use Rattle.correlate_raised_terms.specs.Narrow.{Narrow}
use Rattle.correlate_axis.proofs.LaneSums.{lane_weighed}
use borrow.Author.Rules.{rules}
use Rattle.correlate_axis.proofs.each_lane.correlate_lane.Goals as goal

pub slice_bounds-correlate_line-end-2 : goal.slice_bounds-correlate_line-end-2
slice_bounds-correlate_line-end-2 c = sym (length-take-le _ _ ((search rules)))

pub correlate_line-requires : goal.correlate_line-requires
correlate_line-requires c =
    let s = c in
    let w = s.args.weights.now in
    subst (λ (p : List ℤ). LineSumNeeds w p (length s.args.row.now) × (5 ≤ length w → Narrow p))
    (sym (front_is (pos 0) s.requires.0 c.pad_from.ensures)) (lane_weighed s.requires.0 s.requires.1 s.requires.2)

pub returns : goal.returns
returns c =
    let s = c in
    lane-filtered (pos 0) s.requires.0 c.pad_from.ensures
    (weighed_line whole_ops NonSymmetric (directed s.args.backward s.args.weights.now)) c.correlate_line.ensures
