-- Laws of the test of whether a place is in the middle.
pub mod InMiddle
pub mod Lanes
pub mod OneLane
