-- Laws of the running sum, of the quotient at 32 bits, and of means that are written to a lane.
pub mod Sliding
pub mod Narrow
pub mod OnLane
