-- The middle of a padded grid, and what is around it.
pub mod RowStarts
pub mod Around
pub mod Rows
