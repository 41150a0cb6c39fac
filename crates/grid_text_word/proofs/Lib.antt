-- Laws.
pub mod Digit
