-- Laws of the program's answers.
pub mod Fed
pub mod FromText
pub mod Shown
pub mod FirstBytes
