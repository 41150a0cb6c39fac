-- What the program `play` answers.
pub mod PlayText
pub mod First
pub mod Rows
