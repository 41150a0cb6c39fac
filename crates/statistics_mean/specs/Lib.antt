-- The sum of a line of levels near 0, and its rows.
pub mod NearSum
pub mod Rows
