-- `correlate_axis_f64` meets its contract: neighbouring cells are 1 apart, and both ways leave the sums of the lanes.
use Rattle.pad_line.proofs.EveryLane.{stride_needs}
use Rattle.correlate_axis_f64.proofs.each_lane.correlate_axis_f64.Goals as goal

pub stride_of-requires : goal.stride_of-requires
stride_of-requires c = stride_needs c.requires.0
