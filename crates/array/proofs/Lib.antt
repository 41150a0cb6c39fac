-- Laws of the conditions.
pub mod Levels
