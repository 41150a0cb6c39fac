-- `min_max_axis::each_lane::filter_lane` meets its contract: the padded lane, filtered.
use mathlib.Core.Path.{sym, subst}
use mathlib.Core.List.{List}
use Prim.Native.Nat.{◌+◌}
use lib.IntN.{ℤ, pos}
use lib.ListN.{length}
use lib.Seq.{length-take-le}
use Rattle.pad_line.proofs.OneLane.{front_is, lane-filtered}
use Rattle.min_max_ring.specs.Extremes.{RingNeeds}
use Rattle.min_max_axis.specs.Lane.{order_of, extremes_by}
use Rattle.min_max_axis.proofs.OnePass.{lane_served}
use borrow.Author.Rules.{rules}
use Rattle.min_max_axis.proofs.each_lane.filter_lane.Goals as goal

pub slice_bounds-filter_line-end-2 : goal.slice_bounds-filter_line-end-2
slice_bounds-filter_line-end-2 c = sym (length-take-le _ _ ((search rules)))

pub filter_line-requires : goal.filter_line-requires
filter_line-requires c =
    let s = c in
    subst (λ (p : List ℤ). RingNeeds (length p) (s.args.left + s.args.right + 1) (length s.args.row.now))
    (sym (front_is (pos 0) s.requires.0 c.pad_from.ensures)) (lane_served s.requires.0 s.requires.1)

pub returns : goal.returns
returns c =
    let s = c in
    lane-filtered (pos 0) s.requires.0 c.pad_from.ensures
    (extremes_by (order_of s.args.extreme) (s.args.left + s.args.right + 1)) c.filter_line.ensures
