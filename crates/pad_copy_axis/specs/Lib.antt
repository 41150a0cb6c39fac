-- How a rim is read, and rows of it.
pub mod Steps
pub mod Rows
