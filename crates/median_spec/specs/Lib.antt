-- The median of a mask.
pub mod Judge
pub mod Around
pub mod ByRows
pub mod Rows
