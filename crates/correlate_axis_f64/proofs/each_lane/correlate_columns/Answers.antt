-- `correlate_columns` meets its contract: an axis of an accepted shape has at most 1,024 cells.
use mathlib.Core.Path.{sym, ◌∙◌}
use lib.Seq.{length-take-le}
use Rattle.pad_line.proofs.EveryLane.{axis_short}
use Rattle.correlate_axis_f64.proofs.each_lane.correlate_columns.Goals as goal

pub slice_bounds-swept-end : goal.slice_bounds-swept-end
slice_bounds-swept-end c = axis_short c.requires.0 c.len_of-n.ensures

pub slice_bounds-correlate_lanes-end : goal.slice_bounds-correlate_lanes-end
slice_bounds-correlate_lanes-end c = sym (length-take-le c.len_of-n.result _ ((axis_short c.requires.0 c.len_of-n.ensures)))

pub correlate_lanes-requires : goal.correlate_lanes-requires
correlate_lanes-requires c =
    let P = c.requires in
    (P.0, P.1, P.2, sym ((sym (length-take-le c.len_of-n.result _ ((axis_short c.requires.0 c.len_of-n.ensures))))) ∙ c.len_of-n.ensures)
