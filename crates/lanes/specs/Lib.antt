-- The lanes of an axis, and a line function on every lane.
pub mod Lanes
pub mod Starts
pub mod Axes
pub mod Rows
