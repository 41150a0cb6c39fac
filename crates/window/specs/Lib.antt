-- A signed number by its sign and size.
pub mod Shift
