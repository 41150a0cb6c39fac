-- `min_max_axis::each_lane::filter_columns` meets its contract: an axis of an accepted shape has at most 1,024 cells.
use mathlib.Core.Path.{sym, ◌∙◌}
use lib.Seq.{length-take-le}
use Rattle.pad_line.proofs.EveryLane.{axis_short}
use Rattle.min_max_axis.proofs.each_lane.filter_columns.Goals as goal

pub slice_bounds-swept-end : goal.slice_bounds-swept-end
slice_bounds-swept-end c = axis_short c.requires.0 c.len_of-n.ensures

pub slice_bounds-filter_lanes-end : goal.slice_bounds-filter_lanes-end
slice_bounds-filter_lanes-end c = sym (length-take-le c.len_of-n.result _ ((axis_short c.requires.0 c.len_of-n.ensures)))

pub filter_lanes-requires : goal.filter_lanes-requires
filter_lanes-requires c =
    let P = c.requires in
    (P.0, P.1, P.2, sym ((sym (length-take-le c.len_of-n.result _ ((axis_short c.requires.0 c.len_of-n.ensures))))) ∙ c.len_of-n.ensures)
