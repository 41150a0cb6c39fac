-- Laws of the loops along a row.
pub mod Turns
