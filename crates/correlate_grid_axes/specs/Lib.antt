-- The axes of a grid and its kernel.
pub mod Axes
pub mod Rows
