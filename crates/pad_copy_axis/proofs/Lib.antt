-- Laws of one coordinate of an axis copied onto another.
pub mod RunByRun
pub mod CopiedRims
pub mod Steps
pub mod LaneByLane
