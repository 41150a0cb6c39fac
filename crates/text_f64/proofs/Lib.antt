-- Laws on floats as text.
pub mod Patterns
pub mod Returned
