-- Laws of the sums of each lane.
pub mod LaneSums
