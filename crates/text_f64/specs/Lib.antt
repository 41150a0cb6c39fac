-- Floats as text.
pub mod Bits
pub mod Back
pub mod Rows
