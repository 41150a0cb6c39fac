-- The conditions of the minimum and maximum filters.
pub mod Judge
pub mod Rows
