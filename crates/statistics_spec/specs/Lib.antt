-- One level out of a line of whole levels.
pub mod Sorting
pub mod Statistics
pub mod Rows
