-- Laws of terms that are added to a row.
pub mod Directed
pub mod Turns
pub mod Passes
