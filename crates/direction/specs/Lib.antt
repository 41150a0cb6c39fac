-- The direction in which weights are applied.
pub mod Direction
pub mod Rows
