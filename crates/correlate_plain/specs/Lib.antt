-- A row that holds sums, and what is added to it.
pub mod Added
pub mod Rows
