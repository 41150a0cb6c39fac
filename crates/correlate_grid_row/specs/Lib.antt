-- The sums of a grid kernel, row by row.
pub mod ByRows
pub mod Rows
