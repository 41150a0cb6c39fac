-- Levels near 0.
pub mod Near
pub mod Rows
