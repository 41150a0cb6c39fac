-- Laws of the loops along a row.
pub mod Parts
pub mod Turns
