-- Laws of directed weights.
pub mod Directed
